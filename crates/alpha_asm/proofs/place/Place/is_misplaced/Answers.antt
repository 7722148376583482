use Rattle.alpha_asm.proofs.place.Place.is_misplaced.Goals as goal

pub returns-in-Code : goal.returns-in-Code
returns-in-Code c = λ words. rw c.in-Code.is (c.is_misplaced_insn.ensures words)

pub returns-in-Target : goal.returns-in-Target
returns-in-Target c = λ words. rw c.in-Target.is (c.is_misplaced_insn-in-Target.ensures words)

pub returns-in-High : goal.returns-in-High
returns-in-High c = λ words. rw c.in-High.is (c.is_misplaced_insn-in-High.ensures words)

pub returns-in-Low : goal.returns-in-Low
returns-in-Low c = λ words. rw c.in-Low.is (c.is_misplaced_insn-in-Low.ensures words)
