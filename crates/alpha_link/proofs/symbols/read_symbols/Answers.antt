use Rattle.std.proofs.Common.{◌≡◌, ◌+◌, ◌-◌, ◌++◌, ℕ, List, [], ◌∷◌, length, drop, ap, sym, ◌∙◌, arith}
use Rattle.std.proofs.lemmas.List.{length-append}
use Rattle.std.proofs.lemmas.Result.{err_from_is_err_and}
use Rattle.alpha_link.specs.Symbols.{Named, named, symbol_at}
use Rattle.alpha_link.specs.Listed.{symbol_from, read_in}
use Rattle.alpha_link.specs.Reading.{items_at}
use Rattle.alpha_link.proofs.ReadingResults.{IsRefusal-passed_on}
use Rattle.alpha_link.proofs.ItemLists.{format-continues, items_at-stops}
use Rattle.alpha_link.proofs.SymbolBytes.{symbol_from-front, place_next}
use Rattle.alpha_link.proofs.symbols.read_symbols.Goals as goal

pub loop-number-preserved : goal.loop-number-preserved
loop-number-preserved c =
    let read = symbol_at c.args.total c.args.sizes.now in
    let n = c.args.sizes.now.symbols in
    let l = c.loop-number in
    let bytes = c.args.bytes.now in
    let before = read_in l.symbols in
    let rest = l.rest.now in
    let behind = c.in_ok-behind.behind.now in
    let s = named c.in_ok-behind.field-0-0 in
    let there = symbol_from-front c.args.total c.args.sizes.now before rest s behind c.in_ok-behind.ensures.value in
    let step = format-continues read n l._number before rest s behind
    (items_at read n [] bytes) c.loop-number-test.true l.invariant.reads c.in_ok-behind.ensures.value in
    let begin : drop c.saturating_sub.result l.symbols.bytes.now ≡ rest =
    ap (λ (k : ℕ). drop k l.symbols.bytes.now) c.saturating_sub.ensures
    ∙ (ap (drop (length bytes - length rest)) l.invariant.bytes ∙ sym l.invariant.place) in
    let pushed : read_in c.push.new.self ≡ before ++ s ∷ [] =
    c.in_ok-push.ensures.ok ∙ ap (λ (t : Named). before ++ t ∷ []) (ap symbol_from begin ∙ there.0) in
    let next =
    place_next bytes rest behind (7 + length s.name) l.invariant.place l.invariant.below there.1.1 there.1.0 in
    record {
      size = omega (arith, ap length pushed, length-append before (s ∷ []), l.invariant.size);
      reads = ap (λ (t : List Named). items_at read (n - (l._number + 1)) t behind) pushed ∙ step;
      bytes = c.push.ensures.bytes ∙ l.invariant.bytes;
      place = next.0;
      below = next.1;
    }

pub returns-in_err-behind : goal.returns-in_err-behind
returns-in_err-behind c =
    let read = symbol_at c.args.total c.args.sizes.now in
    let n = c.args.sizes.now.symbols in
    let l = c.loop-number in
    let before = read_in l.symbols in
    let whole = items_at read n [] c.args.bytes.now in
    let p = err_from_is_err_and c.from_residual-in_err-behind.result c.from_residual-in_err-behind.ensures.1 in
    rw (p.1, p.2)
    (IsRefusal-passed_on c.in_err-behind.field-0.0 (read before l.rest.now) whole
    (λ d r. items_at-stops read n l._number before l.rest.now whole c.loop-number-test.true l.invariant.reads d r)
    c.in_err-behind.ensures.value)
