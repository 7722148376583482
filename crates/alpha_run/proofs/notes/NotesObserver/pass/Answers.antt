use Rattle.alpha_run.proofs.NoteLines.{notes_pass}
use Rattle.alpha_run.proofs.notes.NotesObserver.pass.Goals as goal

pub returns : goal.returns
returns c = notes_pass c.args._count c.args.self.now
