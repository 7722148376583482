use Rattle.std.proofs.Common.{◌≡◌, ◌+◌, ◌-◌, ℕ, slice_get, Some, sym, ap, subst, ◌∙◌, arith}
use Rattle.std.proofs.lemmas.Option.{slice_get-get_or}
use Rattle.alpha_seq.specs.FastSteps.{RunsFast}
use Rattle.alpha_seq.proofs.FastStepLaws.{RunsFast-none, RunsFast-more}
use Rattle.alpha_seq.proofs.fast.run_fast_from.Goals as goal

pub words-init : goal.words-init
words-init c =
    let a = c.args in
    let none : 0 ≡ a.units - a.units = omega arith in
    record {
      most = omega arith;
      runs_fast =
          subst
          (λ (k : ℕ). RunsFast k a.image.now a.regs.now a.memory.now a.place.now a.regs.now a.memory.now a.place.now)
          none (RunsFast-none a.image.now a.regs.now a.memory.now a.place.now);
    }

pub words-preserved : goal.words-preserved
words-preserved c =
    let a = c.args in
    let insns = c.insns-insns.result.now in
    let insn = c.index-insns-place.result in
    let there : slice_get insns c.words.place ≡ Some insn =
    slice_get-get_or insns c.words.place insn (omega arith) ∙ ap Some (sym c.index-insns-place.is) in
    let more : a.units - c.words.left + 1 ≡ a.units - (c.words.left - 1) = omega (arith, c.words.invariant.most) in
    record {
      most = omega (arith, c.words.invariant.most);
      runs_fast =
          subst (λ (k : ℕ).
          RunsFast k a.image.now a.regs.now a.memory.now a.place.now c.pass.new.regs c.pass.new.memory c.pass.new.place)
          more
          (RunsFast-more (a.units - c.words.left) a.image.now insns insn a.regs.now c.words.regs c.pass.new.regs
          a.memory.now c.words.memory c.pass.new.memory a.place.now c.words.place c.pass.new.place
          c.insns-insns.ensures.good c.insns-insns.ensures.value (omega arith) there c.words.invariant.runs_fast
          (c.pass.ensures.went c.if-not-pass.false));
    }
