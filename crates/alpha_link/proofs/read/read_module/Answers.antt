use Rattle.std.proofs.Common.{◌≡◌, ◌==◌, ℕ, List, [], true, false, length, map, ap, sym, ◌∙◌, arith}
use Rattle.std.specs.Prelude.{Ok, Err}
use Rattle.std.proofs.lemmas.Result.{err_from_is_err_and}
use Rattle.alpha_table.specs.Encoded.{encoded}
use Rattle.alpha_link.specs.Reading.{taken, items_at}
use Rattle.alpha_link.specs.Header.{header_at}
use Rattle.alpha_link.specs.Symbols.{symbol_at}
use Rattle.alpha_link.specs.Relocations.{relocation_at, body}
use Rattle.alpha_link.specs.Parts.{ModuleParts}
use Rattle.alpha_link.specs.Spelled.{words_at, parts, module_at}
use Rattle.alpha_link.proofs.ReadingResults.{IsRefusal-passed_on}
use Rattle.alpha_link.proofs.ReadingStages.{module_at-header_at, coded_at-words_at, filled_at-taken, named_at-items_at}
use Rattle.alpha_link.proofs.ReadingStages.{relocated_at-items_at, ended_none, ended_some, module_at-coded_at}
use Rattle.alpha_link.proofs.ReadingStages.{module_at-filled_at}
use Rattle.alpha_link.proofs.ReadingStages.{module_at-named_at, module_at-relocated_at, module_at-ended}
use Rattle.alpha_link.proofs.HeaderBytes.{header_takes}
use Rattle.alpha_link.proofs.ModuleBytes.{module_takes}
use Rattle.alpha_link.proofs.read.read_module.Goals as goal

pub returns-in_err-sizes-clause-value : goal.returns-in_err-sizes-clause-value
returns-in_err-sizes-clause-value c =
    let bytes = c.args.bytes.now in
    let p = err_from_is_err_and c.from_residual.result c.from_residual.ensures.1 in
    rw (p.1, p.2)
    (IsRefusal-passed_on c.in_err-sizes.field-0.0 (header_at bytes) (module_at bytes)
    (λ d e. module_at-header_at bytes (Err d) e) c.in_err-sizes.ensures.value)

pub read_code-requires : goal.read_code-requires
read_code-requires c =
    let bytes = c.args.bytes.now in
    (header_takes bytes c.in_ok-sizes.sizes c.in_ok-sizes.behind.now
    (λ i. omega (arith, c.type_inv.bytes i)) c.in_ok-sizes.ensures.value).0.words

pub read_symbols-requires : goal.read_symbols-requires
read_symbols-requires c =
    let bytes = c.args.bytes.now in
    (header_takes bytes c.in_ok-sizes.sizes c.in_ok-sizes.behind.now
    (λ i. omega (arith, c.type_inv.bytes i)) c.in_ok-sizes.ensures.value).0.words

pub returns-in_err-insns-clause-value : goal.returns-in_err-insns-clause-value
returns-in_err-insns-clause-value c =
    let bytes = c.args.bytes.now in
    let n = length bytes in
    let z = c.in_ok-sizes.sizes in
    let behind = c.in_ok-sizes.behind.now in
    let so_far = module_at-coded_at bytes z behind c.in_ok-sizes.ensures.value in
    let p = err_from_is_err_and c.from_residual-in_err-insns.result c.from_residual-in_err-insns.ensures.1 in
    rw (p.1, p.2)
    (IsRefusal-passed_on c.in_err-insns.field-0.0 (words_at n z.words behind) (module_at bytes)
    (λ d e. so_far ∙ coded_at-words_at n z behind (Err d) e) c.in_err-insns.ensures.value)

pub returns-in_err-data-clause-value : goal.returns-in_err-data-clause-value
returns-in_err-data-clause-value c =
    let bytes = c.args.bytes.now in
    let n = length bytes in
    let z = c.in_ok-sizes.sizes in
    let behind = c.in_ok-sizes.behind.now in
    let words = map encoded c.in_ok-insns.insns.items in
    let b2 = c.in_ok-insns.behind.now in
    let so_far = module_at-filled_at bytes z behind words b2 c.in_ok-sizes.ensures.value c.in_ok-insns.ensures.value in
    let p = err_from_is_err_and c.from_residual-in_err-data.result c.from_residual-in_err-data.ensures.1 in
    rw (p.1, p.2)
    (IsRefusal-passed_on c.in_err-data.field-0.0 (taken n z.filled b2) (module_at bytes)
    (λ d e. so_far ∙ filled_at-taken n z words b2 (Err d) e) c.in_err-data.ensures.value)

pub returns-in_err-symbols-clause-value : goal.returns-in_err-symbols-clause-value
returns-in_err-symbols-clause-value c =
    let bytes = c.args.bytes.now in
    let n = length bytes in
    let z = c.in_ok-sizes.sizes in
    let behind = c.in_ok-sizes.behind.now in
    let words = map encoded c.in_ok-insns.insns.items in
    let b2 = c.in_ok-insns.behind.now in
    let stored = c.in_ok-data.data.now in
    let b3 = c.in_ok-data.behind.now in
    let so_far =
    module_at-named_at bytes z behind words b2 stored b3 c.in_ok-sizes.ensures.value c.in_ok-insns.ensures.value
    c.in_ok-data.ensures.value in
    let p = err_from_is_err_and c.from_residual-in_err-symbols.result c.from_residual-in_err-symbols.ensures.1 in
    rw (p.1, p.2)
    (IsRefusal-passed_on c.in_err-symbols.field-0.0 (items_at (symbol_at n z) z.symbols [] b3) (module_at bytes)
    (λ d e. so_far ∙ named_at-items_at n z words stored b3 (Err d) e) c.in_err-symbols.ensures)

pub returns-in_err-relocations-clause-value : goal.returns-in_err-relocations-clause-value
returns-in_err-relocations-clause-value c =
    let bytes = c.args.bytes.now in
    let n = length bytes in
    let z = c.in_ok-sizes.sizes in
    let behind = c.in_ok-sizes.behind.now in
    let words = map encoded c.in_ok-insns.insns.items in
    let b2 = c.in_ok-insns.behind.now in
    let stored = c.in_ok-data.data.now in
    let b3 = c.in_ok-data.behind.now in
    let symbols = c.in_ok-symbols.symbols in
    let b4 = c.in_ok-symbols.behind.now in
    let so_far = module_at-relocated_at bytes z behind words b2 stored b3 symbols b4 c.in_ok-sizes.ensures.value
    c.in_ok-insns.ensures.value c.in_ok-data.ensures.value c.in_ok-symbols.ensures in
    let refused = rw c.deref.ensures.value at c.in_err-relocations.ensures in
    let p =
    err_from_is_err_and c.from_residual-in_err-relocations.result c.from_residual-in_err-relocations.ensures.1 in
    rw (p.1, p.2)
    (IsRefusal-passed_on c.in_err-relocations.field-0.0
    (items_at (relocation_at n z (body words stored)) z.relocations [] b4)
    (module_at bytes) (λ d e. so_far ∙ relocated_at-items_at n z words stored symbols b4 (Err d) e) refused)

pub returns-then-not-is_empty-clause-value : goal.returns-then-not-is_empty-clause-value
returns-then-not-is_empty-clause-value c =
    let bytes = c.args.bytes.now in
    let n = length bytes in
    let z = c.in_ok-sizes.sizes in
    let behind = c.in_ok-sizes.behind.now in
    let words = map encoded c.in_ok-insns.insns.items in
    let b2 = c.in_ok-insns.behind.now in
    let stored = c.in_ok-data.data.now in
    let b3 = c.in_ok-data.behind.now in
    let symbols = c.in_ok-symbols.symbols in
    let b4 = c.in_ok-symbols.behind.now in
    let relocations = c.in_ok-relocations.relocations.items in
    let b5 = c.in_ok-relocations.behind.now in
    let last = rw c.deref.ensures.value at c.in_ok-relocations.ensures in
    let so_far = module_at-ended bytes z behind words b2 stored b3 symbols b4 relocations b5 c.in_ok-sizes.ensures.value
    c.in_ok-insns.ensures.value c.in_ok-data.ensures.value c.in_ok-symbols.ensures last in
    let some : (length b5 == 0) ≡ false = sym c.is_empty.ensures ∙ c.if-not-is_empty.true in
    rw c.saturating_sub.ensures (so_far ∙ ended_some n (parts z words stored symbols relocations) b5 some)

pub returns-clause-value : goal.returns-clause-value
returns-clause-value c =
    let bytes = c.args.bytes.now in
    let n = length bytes in
    let z = c.in_ok-sizes.sizes in
    let behind = c.in_ok-sizes.behind.now in
    let words = map encoded c.in_ok-insns.insns.items in
    let b2 = c.in_ok-insns.behind.now in
    let stored = c.in_ok-data.data.now in
    let b3 = c.in_ok-data.behind.now in
    let symbols = c.in_ok-symbols.symbols in
    let b4 = c.in_ok-symbols.behind.now in
    let relocations = c.in_ok-relocations.relocations.items in
    let b5 = c.in_ok-relocations.behind.now in
    let last = rw c.deref.ensures.value at c.in_ok-relocations.ensures in
    let so_far = module_at-ended bytes z behind words b2 stored b3 symbols b4 relocations b5 c.in_ok-sizes.ensures.value
    c.in_ok-insns.ensures.value c.in_ok-data.ensures.value c.in_ok-symbols.ensures last in
    let none : (length b5 == 0) ≡ true = sym c.is_empty.ensures ∙ c.if-not-is_empty.false in
    let same = ap (λ (l : List ℕ). parts z words l symbols relocations) (sym c.in_ok-from_slice.ensures.items) in
    let read =
    so_far ∙ (ended_none n (parts z words stored symbols relocations) b5 none ∙ ap (λ (m : ModuleParts). Ok m) same) in
    read

pub returns-clause-good : goal.returns-clause-good
returns-clause-good c =
    let bytes = c.args.bytes.now in
    let n = length bytes in
    let z = c.in_ok-sizes.sizes in
    let behind = c.in_ok-sizes.behind.now in
    let words = map encoded c.in_ok-insns.insns.items in
    let b2 = c.in_ok-insns.behind.now in
    let stored = c.in_ok-data.data.now in
    let b3 = c.in_ok-data.behind.now in
    let symbols = c.in_ok-symbols.symbols in
    let b4 = c.in_ok-symbols.behind.now in
    let relocations = c.in_ok-relocations.relocations.items in
    let b5 = c.in_ok-relocations.behind.now in
    let last = rw c.deref.ensures.value at c.in_ok-relocations.ensures in
    let so_far = module_at-ended bytes z behind words b2 stored b3 symbols b4 relocations b5 c.in_ok-sizes.ensures.value
    c.in_ok-insns.ensures.value c.in_ok-data.ensures.value c.in_ok-symbols.ensures last in
    let none : (length b5 == 0) ≡ true = sym c.is_empty.ensures ∙ c.if-not-is_empty.false in
    let same = ap (λ (l : List ℕ). parts z words l symbols relocations) (sym c.in_ok-from_slice.ensures.items) in
    let read =
    so_far ∙ (ended_none n (parts z words stored symbols relocations) b5 none ∙ ap (λ (m : ModuleParts). Ok m) same) in
    (module_takes bytes _ (λ i. omega (arith, c.type_inv.bytes i)) read).0

pub returns-clause-spelled : goal.returns-clause-spelled
returns-clause-spelled c =
    let bytes = c.args.bytes.now in
    let n = length bytes in
    let z = c.in_ok-sizes.sizes in
    let behind = c.in_ok-sizes.behind.now in
    let words = map encoded c.in_ok-insns.insns.items in
    let b2 = c.in_ok-insns.behind.now in
    let stored = c.in_ok-data.data.now in
    let b3 = c.in_ok-data.behind.now in
    let symbols = c.in_ok-symbols.symbols in
    let b4 = c.in_ok-symbols.behind.now in
    let relocations = c.in_ok-relocations.relocations.items in
    let b5 = c.in_ok-relocations.behind.now in
    let last = rw c.deref.ensures.value at c.in_ok-relocations.ensures in
    let so_far = module_at-ended bytes z behind words b2 stored b3 symbols b4 relocations b5 c.in_ok-sizes.ensures.value
    c.in_ok-insns.ensures.value c.in_ok-data.ensures.value c.in_ok-symbols.ensures last in
    let none : (length b5 == 0) ≡ true = sym c.is_empty.ensures ∙ c.if-not-is_empty.false in
    let same = ap (λ (l : List ℕ). parts z words l symbols relocations) (sym c.in_ok-from_slice.ensures.items) in
    let read =
    so_far ∙ (ended_none n (parts z words stored symbols relocations) b5 none ∙ ap (λ (m : ModuleParts). Ok m) same) in
    (module_takes bytes _ (λ i. omega (arith, c.type_inv.bytes i)) read).1

pub invariant_of-result : goal.invariant_of-result
invariant_of-result c =
    let bytes = c.args.bytes.now in
    let n = length bytes in
    let z = c.in_ok-sizes.sizes in
    let behind = c.in_ok-sizes.behind.now in
    let words = map encoded c.in_ok-insns.insns.items in
    let b2 = c.in_ok-insns.behind.now in
    let stored = c.in_ok-data.data.now in
    let b3 = c.in_ok-data.behind.now in
    let symbols = c.in_ok-symbols.symbols in
    let b4 = c.in_ok-symbols.behind.now in
    let relocations = c.in_ok-relocations.relocations.items in
    let b5 = c.in_ok-relocations.behind.now in
    let last = rw c.deref.ensures.value at c.in_ok-relocations.ensures in
    let so_far = module_at-ended bytes z behind words b2 stored b3 symbols b4 relocations b5 c.in_ok-sizes.ensures.value
    c.in_ok-insns.ensures.value c.in_ok-data.ensures.value c.in_ok-symbols.ensures last in
    let none : (length b5 == 0) ≡ true = sym c.is_empty.ensures ∙ c.if-not-is_empty.false in
    let same = ap (λ (l : List ℕ). parts z words l symbols relocations) (sym c.in_ok-from_slice.ensures.items) in
    let read =
    so_far ∙ (ended_none n (parts z words stored symbols relocations) b5 none ∙ ap (λ (m : ModuleParts). Ok m) same) in
    record {
      good = (module_takes bytes _ (λ i. omega (arith, c.type_inv.bytes i)) read).0;
      insns = c.in_ok-insns.ensures.known;
    }
