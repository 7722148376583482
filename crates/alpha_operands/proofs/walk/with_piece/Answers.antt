use Rattle.std.proofs.Common.{take, refl, ◌∙◌, ap}
use Rattle.alpha_operands.proofs.PatternPrefixes.{front_after-take}
use Rattle.alpha_operands.proofs.walk.with_piece.Goals as goal
use Rattle.alpha_operands.proofs.walk.with_piece.Goals.{in-Again, in_default}

pub returns-clause-front : goal.returns-clause-front
returns-clause-front c =
    elim c.match-piece.branch [
      | in-Again w ↦ rw (w.pieces-is, w.in-Again.is) refl
      | in_default w ↦ ap (λ n. take n c.args.pattern.now) w.pieces-is
          ∙ front_after-take c.args.front.now c.args.piece c.args.pattern.now w.in_default.not-Again c.requires
    ]
