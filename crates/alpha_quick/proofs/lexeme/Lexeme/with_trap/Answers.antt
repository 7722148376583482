use Rattle.std.proofs.Common.{◌≡◌, ◌∷◌, ◌∙◌, ◌++◌, drop, ap, rules}
use Rattle.alpha_quick.proofs.Keys.{IsKeyed-with_trap}
use Rattle.alpha_quick.proofs.lexeme.Lexeme.with_trap.Goals as goal

pub returns-in-47-clause-key : goal.returns-in-47-clause-key
returns-in-47-clause-key c =
    let behind : c.args.self.now.rest.now ≡ 47 ∷ (118 ∷ drop 2 c.args.self.now.rest.now) = search rules in
    rw (c.with_byte-key.ensures, c.with_byte.ensures)
    (IsKeyed-with_trap c.args.line.now c.args.self.now.name.now
    (drop 2 c.args.self.now.rest.now) c.split_at.result.0.now c.args.self.now.key.0
    (c.requires.line ∙ ap (λ b. c.args.self.now.name.now ++ b) behind) c.split_at.ensures.front c.requires.key)
