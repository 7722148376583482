use Rattle.std.proofs.Common.{◌≡◌, ◌+◌, ◌-◌, ◌/◌, ◌%◌, ◌^◌, sym, ap, ◌∙◌, ℕ, arith}
use Rattle.alpha_names.specs.Tree.{slot_in, seek, met}
use Rattle.alpha_names.specs.declared.tree.Slot.{Slot}
use Rattle.alpha_names.proofs.TreeSearches.{seek_next, seek_in-seek, met_free, met_taken, met_else, seek-zero}
use Rattle.alpha_names.proofs.tree.Tree.seek.Goals as goal

pub loop-level-init : goal.loop-level-init
loop-level-init c =
    record {
      in_range = omega (arith, c.ranges.hash.fits);
      same = sym (seek_in-seek (slot_in c.args.self.now) c.args.hash);
    }

pub returns-then-slot-eq0-clause-value : goal.returns-then-slot-eq0-clause-value
returns-then-slot-eq0-clause-value c =
    let slots = slot_in c.args.self.now in
    let mark = c.args.hash % 2 ^ 32 in
    let below : (slots c.loop-level.place).below ≡ 0 =
    ap (λ (s : Slot). s.below) (sym c.slot-slot.ensures.value) ∙ c.if-slot-eq0.true in
    sym (met_free (slots c.loop-level.place) mark c.loop-level.place _ below)
    ∙ (sym (seek_next slots mark (20 - c.loop-level._level)
    (19 - c.loop-level._level) c.loop-level.path c.loop-level.place (omega (arith, c.loop-level-test.true)))
    ∙ c.loop-level.invariant.same)

pub returns-then-slot-mark-clause-value : goal.returns-then-slot-mark-clause-value
returns-then-slot-mark-clause-value c =
    let slots = slot_in c.args.self.now in
    let mark = c.args.hash % 2 ^ 32 in
    let slot = c.slot-slot.result in
    sym (ap (λ (s : Slot). met s mark c.loop-level.place
    (seek slots mark (19 - c.loop-level._level) (c.loop-level.path / 2) (s.below + c.loop-level.path % 2)))
    (sym c.slot-slot.ensures.value)
    ∙ met_taken slot mark c.loop-level.place _ c.if-slot-eq0.false c.if-slot-mark.true)
    ∙ (sym (seek_next slots mark (20 - c.loop-level._level)
    (19 - c.loop-level._level) c.loop-level.path c.loop-level.place (omega (arith, c.loop-level-test.true)))
    ∙ c.loop-level.invariant.same)

pub loop-level-preserved : goal.loop-level-preserved
loop-level-preserved c =
    let slots = slot_in c.args.self.now in
    let mark = c.args.hash % 2 ^ 32 in
    let slot = c.slot-slot.result in
    record {
      in_range = omega (arith, c.slot-slot.ensures.bound);
      same =
          ap (λ (k : ℕ). seek slots mark k (c.loop-level.path / 2) (slot.below + c.loop-level.path % 2)) (omega arith)
          ∙ (sym (ap (λ (s : Slot). met s mark c.loop-level.place
          (seek slots mark (19 - c.loop-level._level) (c.loop-level.path / 2) (s.below + c.loop-level.path % 2)))
          (sym c.slot-slot.ensures.value)
          ∙ met_else slot mark c.loop-level.place _ c.if-slot-eq0.false c.if-slot-mark.false)
          ∙ (sym (seek_next slots mark (20 - c.loop-level._level)
          (19 - c.loop-level._level) c.loop-level.path c.loop-level.place (omega (arith, c.loop-level-test.true)))
          ∙ c.loop-level.invariant.same));
    }

pub returns-clause-value : goal.returns-clause-value
returns-clause-value c =
    sym (seek-zero (slot_in c.args.self.now) (c.args.hash % 2 ^ 32) (20 - c.loop-level._level) c.loop-level.path
    c.loop-level.place (omega (arith, c.loop-level-test.false, c.loop-level.auto._level-end)))
    ∙ c.loop-level.invariant.same
