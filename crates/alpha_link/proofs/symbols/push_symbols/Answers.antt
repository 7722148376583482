use Rattle.std.proofs.Common.{◌++◌, ◌+◌, ℕ, List, drop, ap, sym, ◌∙◌, append_assoc}
use Rattle.std.specs.List.{flat_map}
use Rattle.alpha_link.specs.Symbols.{Named, named, symbol_bytes}
use Rattle.alpha_link.proofs.LoopLists.{drop-slice_get}
use Rattle.alpha_link.proofs.symbols.push_symbols.Goals as goal

pub loop-number-preserved : goal.loop-number-preserved
loop-number-preserved c =
    let xs = c.args.symbols.now in
    let i = c.loop-number.number in
    let s = named c.at.result in
    let before = c.loop-number.out.items in
    let rest = flat_map symbol_bytes (drop (i + 1) xs) in
    ap (λ (o : List ℕ). o ++ rest) c.in_ok-push_symbol.ensures.ok
    ∙ (append_assoc before (symbol_bytes s) rest
    ∙ (ap (λ (ys : List Named). before ++ flat_map symbol_bytes ys) (sym (drop-slice_get xs i s c.at.ensures))
    ∙ c.loop-number.invariant))
