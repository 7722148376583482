use Rattle.std.proofs.Common.{◌++◌, length, ap}
use Rattle.std.specs.Option.{option_map}
use Rattle.alpha_text.specs.Statements.{stmt_of}
use Rattle.alpha_text.specs.Reading.{located, read}
use Rattle.alpha_quick.proofs.Parts.{IsAfterLabel-says}
use Rattle.alpha_quick.proofs.line.Unparsed.item.Goals as goal

pub returns-in-Some : goal.returns-in-Some
unfolding read
returns-in-Some c =
    let rest = c.args.self.now in
    ap (located (length rest.line.now))
    (IsAfterLabel-says rest.line.now (rest.lexeme.name.now ++ rest.lexeme.rest.now) (option_map (λ l. l.now) rest.label)
    (stmt_of c.in-Some.statement) c.requires.read.line c.in-Some.ensures)
