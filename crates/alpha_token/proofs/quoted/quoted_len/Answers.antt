use Rattle.std.proofs.Common.{arith, rules}
use Rattle.alpha_token.proofs.StringLengths.{quoted_len-more}
use Rattle.alpha_token.proofs.quoted.quoted_len.Goals as goal

pub loop-rest-preserved : goal.loop-rest-preserved
loop-rest-preserved c = (
  omega (arith, c.in_ok-more.ensures.shorter),
  quoted_len-more c.args.text.now c.loop-rest.rest.now c.in_ok-more.more.now c.in_ok-more.field-0-0 (search rules)
      (search rules) (search rules) c.loop-rest.invariant.0 c.loop-rest.invariant.1,
)
