use Rattle.std.proofs.Common.{length, map, true, false, None, refl, sym, ◌∙◌}
use Rattle.std.proofs.lemmas.List.{append-nil}
use Rattle.alpha_asm.specs.Patches.{fix_of}
use Rattle.alpha_quick.specs.Parts.{unlabelled}
use Rattle.alpha_asm.proofs.ItemsWithoutEffect.{adds_insn}
use Rattle.alpha_asm.proofs.LineRefusals.{refused_here-insn}
use Rattle.alpha_asm.proofs.pass.Pass.take_code.Goals as goal

pub returns-then-is_misplaced_insn-clause-refused : goal.returns-then-is_misplaced_insn-clause-refused
returns-then-is_misplaced_insn-clause-refused c =
    λ other kind. refused_here-insn kind c.args.self.now c.args.insn.now true
    (sym (c.is_misplaced_insn.ensures (length c.args.self.now.output.code.items)) ∙ c.if-is_misplaced_insn.true)

pub returns-in_ok-push-clause-ok : goal.returns-in_ok-push-clause-ok
returns-in_ok-push-clause-ok c = record {
  labels = λ name. refl;
  statement =
      adds_insn (unlabelled c.args.insn.now) (record { insn = c.args.insn.now; reach = None }) _ _ refl (record {
        line = refl;
        place = refl;
        code = c.in_ok-push.ensures.items;
        bytes = refl;
        patches = sym (append-nil (map fix_of c.args.self.now.output.patches.items));
        fields = refl;
      });
}

pub returns-in_ok-push-clause-taken : goal.returns-in_ok-push-clause-taken
returns-in_ok-push-clause-taken c =
    λ kind. refused_here-insn kind c.args.self.now c.args.insn.now false
    (sym (c.is_misplaced_insn.ensures (length c.args.self.now.output.code.items)) ∙ c.if-is_misplaced_insn.false)
