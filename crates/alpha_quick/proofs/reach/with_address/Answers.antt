use Rattle.std.proofs.Common.{Some, sym, ◌∙◌, ap}
use Rattle.alpha_text.specs.Statements.{half_stmt}
use Rattle.alpha_quick.proofs.reach.with_address.Goals as goal

pub returns : goal.returns
returns c = λ rb disp. (
  c.in_ok-half.half,
  c.in_ok-half.address.label.now,
  c.in_ok-half.address.offset,
  c.in_ok-half.rest.now,
  c.in_ok-rb.rb,
  c.in_ok-half.ensures,
  c.in_ok-rb.ensures,
  ap (λ i. half_stmt (Some c.in_ok-half.half) i c.in_ok-half.address.label.now c.in_ok-half.address.offset)
      (sym c.memory-insn.ensures)
      ∙ sym c.with_half.ensures,
)
