use Rattle.std.proofs.Common.{◌≡◌, ◌+◌, ◌-◌, ℕ, List, [], ◌∷◌, length, map, ap, ◌∙◌, arith}
use Rattle.std.proofs.lemmas.List.{length-append}
use Rattle.std.proofs.lemmas.Result.{err_from_is_err_and}
use Rattle.alpha_table.specs.Encoded.{encoded}
use Rattle.alpha_link.specs.declared.relocation.Relocation.{Relocation}
use Rattle.alpha_link.specs.Relocations.{relocation_at, body}
use Rattle.alpha_link.specs.Reading.{items_at}
use Rattle.alpha_link.proofs.ReadingResults.{IsRefusal-passed_on}
use Rattle.alpha_link.proofs.ItemLists.{format-continues, items_at-stops, items_at-ends}
use Rattle.alpha_link.proofs.relocations.read_relocations.Goals as goal

pub loop-number-init : goal.loop-number-init
loop-number-init c =
    let read = relocation_at c.args.total c.args.sizes.now (body (map encoded c.args.insns.now) c.args.filled.now) in
    let n = c.args.sizes.now.relocations in
    let bytes = c.args.bytes.now in
    let none = c.in_ok-relocations.ensures.items in
    let all : n - 0 ≡ n = omega arith in
    record {
      size = ap length none;
      reads =
          ap (λ (l : List Relocation). items_at read (n - 0) l bytes) none
          ∙ ap (λ (k : ℕ). items_at read k [] bytes) all;
    }

pub loop-number-preserved : goal.loop-number-preserved
loop-number-preserved c =
    let read = relocation_at c.args.total c.args.sizes.now (body (map encoded c.args.insns.now) c.args.filled.now) in
    let n = c.args.sizes.now.relocations in
    let l = c.loop-number in
    let before = l.relocations.items in
    let x = c.in_ok-relocation.relocation in
    let pushed = c.in_ok-push.ensures.items in
    let at = rw c.deref.ensures.value at c.in_ok-relocation.ensures.value in
    let step = format-continues read n l._number before l.rest.now (x) c.in_ok-relocation.behind.now
    (items_at read n [] c.args.bytes.now) c.loop-number-test.true l.invariant.reads at in
    record {
      size = omega (arith, ap length pushed, length-append before (x ∷ []), l.invariant.size);
      reads =
          ap (λ (t : List Relocation). items_at read (n - (l._number + 1)) t c.in_ok-relocation.behind.now) pushed
          ∙ step;
    }

pub returns : goal.returns
returns c =
    let read = relocation_at c.args.total c.args.sizes.now (body (map encoded c.args.insns.now) c.args.filled.now) in
    let n = c.args.sizes.now.relocations in
    let l = c.loop-number in
    items_at-ends read n l._number l.relocations.items l.rest.now
    (items_at read n [] c.args.bytes.now) c.loop-number-test.false l.invariant.reads

pub returns-in_err-relocation : goal.returns-in_err-relocation
returns-in_err-relocation c =
    let read = relocation_at c.args.total c.args.sizes.now (body (map encoded c.args.insns.now) c.args.filled.now) in
    let n = c.args.sizes.now.relocations in
    let l = c.loop-number in
    let before = l.relocations.items in
    let whole = items_at read n [] c.args.bytes.now in
    let p = err_from_is_err_and c.from_residual-in_err-relocation.result c.from_residual-in_err-relocation.ensures.1 in
    let refused = rw c.deref.ensures.value at c.in_err-relocation.ensures.value in
    rw (p.1, p.2)
    (IsRefusal-passed_on c.in_err-relocation.field-0.0 (read before l.rest.now) whole
    (λ d r. items_at-stops read n l._number before l.rest.now whole c.loop-number-test.true l.invariant.reads d r)
    refused)
