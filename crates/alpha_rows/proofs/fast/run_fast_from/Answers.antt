use Rattle.std.proofs.Common.{◌≡◌, ◌+◌, ◌-◌, ℕ, subst, arith}
use Rattle.alpha_rows.specs.PassingSteps.{RunsOn}
use Rattle.alpha_rows.proofs.RowRuns.{RunsOn-none, RunsOn-row, GoesOnRow-within}
use Rattle.alpha_rows.proofs.fast.run_fast_from.Goals as goal

pub words-init : goal.words-init
words-init c =
    let a = c.args in
    let none : 0 ≡ a.units - a.units = omega arith in
    record {
      most = omega arith;
      place = c.requires.place;
      memory = c.requires.memory;
      region_hint = omega arith;
      runs =
          subst (λ (k : ℕ). RunsOn a.barriers k a.image.now a.regs.now a.regions.now a.place.now a.regs.now
          a.regions.now a.place.now) none (RunsOn-none a.barriers a.image.now a.regs.now a.regions.now a.place.now);
    }

pub words-preserved : goal.words-preserved
words-preserved c =
    let a = c.args in
    let went = c.retires_row.ensures.went c.if-not-retires_row.false in
    let more : a.units - c.words.left + 1 ≡ a.units - (c.words.left - 1) = omega (arith, c.words.invariant.most) in
    record {
      most = omega (arith, c.words.invariant.most);
      place =
          GoesOnRow-within a.barriers a.image.now c.words.regs c.retires_row.new.regs c.words.regions
          c.retires_row.new.regions c.words.at c.retires_row.new.place c.code_base-base.ensures.good went;
      memory = c.retires_row.ensures.memory;
      region_hint = c.retires_row.ensures.region_hint;
      runs =
          subst (λ (k : ℕ). RunsOn a.barriers k a.image.now a.regs.now a.regions.now a.place.now c.retires_row.new.regs
          c.retires_row.new.regions c.retires_row.new.place) more
          (RunsOn-row a.barriers (a.units - c.words.left) a.image.now a.regs.now c.words.regs c.retires_row.new.regs
          a.regions.now c.words.regions c.retires_row.new.regions a.place.now c.words.at c.retires_row.new.place
          c.code_base-base.ensures.good c.words.invariant.runs went);
    }
