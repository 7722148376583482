use Rattle.std.proofs.Common.{◌-◌, List, length, ℕ, sym, ap, subst, ◌∙◌, arith}
use Rattle.std.proofs.lemmas.Result.{err_from_is_err_and}
use Rattle.std.proofs.lemmas.List.Elements.{All-from_get_or}
use Rattle.alpha_image.specs.Header.{header_numbers}
use Rattle.alpha_image.specs.Parts.{IsByte}
use Rattle.alpha_image.specs.Reading.{numbered_level}
use Rattle.alpha_image.specs.ImageFault.{word_fault}
use Rattle.alpha_image.specs.Tells.{Refuses}
use Rattle.alpha_image.proofs.ReadSpelling.{IsBytes-All}
use Rattle.alpha_image.proofs.OfFile.{words_cut, code_cut, of_file}
use Rattle.alpha_image.proofs.image.Image.of_file.Goals as goal

pub returns-in_err-insns-clause-fault : goal.returns-in_err-insns-clause-fault
returns-in_err-insns-clause-fault c =
    let bytes = c.args.bytes.items in
    let fits = IsBytes-All bytes (All-from_get_or IsByte bytes 0 (λ i less. omega arith)) in
    let code = c.split_at.result.0.now in
    let level = numbered_level c.args.header.fields.level in
    let front = rw c.deref.ensures.value at c.split_at.ensures.front in
    let back = rw c.deref.ensures.value at c.split_at.ensures.back in
    let cut = code_cut bytes c.front_size.result c.args.header.version
    (header_numbers c.args.header) code c.split_at.result.1.now fits c.requires.form c.front_size.ensures.value
    c.requires.version c.requires.numbers front back in
    let p = err_from_is_err_and c.from_residual.result c.from_residual.ensures.1 in
    let refused = rw c.level.ensures.value at c.in_err-insns.ensures.fault in
    rw (p.1, p.2)
    (subst (λ (words : List ℕ). Refuses c.in_err-insns.field-0.0 (word_fault level words))
    (words_cut bytes code cut) refused)

pub invariant_of-result : goal.invariant_of-result
invariant_of-result c =
    let bytes = c.args.bytes.items in
    let fits = IsBytes-All bytes (All-from_get_or IsByte bytes 0 (λ i less. omega arith)) in
    let front = rw c.deref.ensures.value at c.split_at.ensures.front in
    let back = rw c.deref.ensures.value at c.split_at.ensures.back in
    let none = rw c.level.ensures.value at c.in_ok-insns.ensures.fault in
    let k = of_file bytes c.front_size.result c.args.header.version (header_numbers c.args.header)
    c.split_at.result.0.now c.split_at.result.1.now fits c.requires.form c.front_size.ensures.value
    c.requires.version c.requires.numbers front back (c.len.result - length c.split_at.result.1.now)
    (omega (arith, c.len.ensures, c.args.bytes.ok.0)) c.in_ok-insns.insns.items none c.in_ok-insns.ensures.insns in
    record {
      good = k.good;
      numbers = k.numbers;
      insns = k.insns;
      within = omega (arith, c.len.ensures, c.args.bytes.ok.0);
    }

pub returns-clause-fault : goal.returns-clause-fault
returns-clause-fault c =
    let bytes = c.args.bytes.items in
    let fits = IsBytes-All bytes (All-from_get_or IsByte bytes 0 (λ i less. omega arith)) in
    let code = c.split_at.result.0.now in
    let front = rw c.deref.ensures.value at c.split_at.ensures.front in
    let back = rw c.deref.ensures.value at c.split_at.ensures.back in
    let none = rw c.level.ensures.value at c.in_ok-insns.ensures.fault in
    let cut = code_cut bytes c.front_size.result c.args.header.version
    (header_numbers c.args.header) code c.split_at.result.1.now fits c.requires.form c.front_size.ensures.value
    c.requires.version c.requires.numbers front back in
    ap (word_fault (numbered_level c.args.header.fields.level)) (sym (words_cut bytes code cut)) ∙ none

pub returns-clause-good : goal.returns-clause-good
returns-clause-good c = (invariant_of-result c).good

pub returns-clause-parts : goal.returns-clause-parts
returns-clause-parts c =
    let bytes = c.args.bytes.items in
    let fits = IsBytes-All bytes (All-from_get_or IsByte bytes 0 (λ i less. omega arith)) in
    let front = rw c.deref.ensures.value at c.split_at.ensures.front in
    let back = rw c.deref.ensures.value at c.split_at.ensures.back in
    let none = rw c.level.ensures.value at c.in_ok-insns.ensures.fault in
    let k = of_file bytes c.front_size.result c.args.header.version (header_numbers c.args.header)
    c.split_at.result.0.now c.split_at.result.1.now fits c.requires.form c.front_size.ensures.value
    c.requires.version c.requires.numbers front back (c.len.result - length c.split_at.result.1.now)
    (omega (arith, c.len.ensures, c.args.bytes.ok.0)) c.in_ok-insns.insns.items none c.in_ok-insns.ensures.insns in
    k.parts
