use Rattle.std.proofs.Common.{◌≡◌, Some, sym}
use Rattle.alpha_table.specs.declared.names.Mnemonic.TheVariants as mnemonics
use Rattle.alpha_operands.specs.declared.number.Number.TheVariants as numbers
use Rattle.alpha_operands.specs.declared.number.Sign.TheVariants as signs
use Rattle.alpha_operands.specs.declared.piece.Piece.TheVariants as pieces
use Rattle.alpha_operands.specs.Ranges.{number_of}
use Rattle.alpha_table.specs.declared.form.Form.TheVariants.{Fetch}
use Rattle.alpha_quick.proofs.LexemeMeanings.{if-insn, says_prefetch}
use Rattle.alpha_quick.proofs.forms.prefetch.Goals as goal

pub returns : goal.returns
returns c =
    let is : number_of pieces.Nothing signs.Plus c.in_ok-n.n ≡ Some numbers.Nothing =
    sym (rw c.in-Some-Nothing.field-0-is at c.in-Some-Nothing.ensures) in
    if-insn (mnemonics.Fetch c.args.modify) c.args.words.now (Fetch c.args.modify c.in_ok-rb.rb) c.of.result
    (says_prefetch c.args.modify c.in_ok-rb.rb c.in_ok-n.n c.args.words.now c.in_ok-n.rest.now c.in_ok-n.ensures is
    c.in_ok-rb.ensures) c.of.ensures.found
