use Rattle.std.proofs.Common.{◌+◌, ◌∙◌, length, ap, sym, subst, arith}
use Rattle.alpha_shadow.specs.NoTrigger.{IsNoTrigger, AreNoTriggers}
use Rattle.alpha_shadow.proofs.NextTriggers.{AreNoTriggers-next}
use Rattle.alpha_shadow.proofs.fetch.Fetch.next_trigger.Goals as goal

pub loop-place-preserved : goal.loop-place-preserved
loop-place-preserved g c =
    let code = g.Self.Fetch.code c.loop-place.self in
    let at = c.loop-place.place in
    let same = c.insn-insn.ensures.code in
    let loud = c.if-is_trigger.false in
    let here : IsNoTrigger code at = record {
      insn = c.insn-insn.result;
      there = c.insn-insn.ensures.found;
      other = λ t. let set = c.is_trigger.ensures.1 t in cc;
    } in
    record {
      same = same ∙ c.loop-place.invariant.same;
      words = c.loop-place.invariant.words ∙ ap length (sym same);
      quiet =
          subst (λ k. AreNoTriggers k c.args.from (at + 1)) (sym same)
          (AreNoTriggers-next code c.args.from at c.loop-place.invariant.quiet here);
      looked = let n = c.insn-insn.ensures.count in let f = c.loop-place.invariant.looked in omega arith;
    }
