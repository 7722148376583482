use Rattle.std.proofs.Common.{ap, ◌∙◌}
use Rattle.alpha_image.proofs.ReadSpelling.{IsBytes-All}
use Rattle.alpha_replay.specs.JournalFault.{first_fault}
use Rattle.alpha_replay.specs.Reading.{parts_of}
use Rattle.alpha_replay.proofs.JournalSpelling.{journal-no_fault, journal_first_fault-spelling}
use Rattle.alpha_replay.proofs.JournalSpelling.{journal_spelling-injective}
use Rattle.alpha_replay.proofs.JournalSpelling.{journal_parts_of-spelling}
use Rattle.alpha_replay.proofs.laws.laws_of_journals.Goals as goal

pub returns-clause-spelled : goal.returns-clause-spelled
returns-clause-spelled c = λ bytes all. (
  λ none. let both = journal-no_fault bytes (IsBytes-All bytes all) none in (parts_of bytes, both.0, both.1),
  λ s. ap first_fault s.2 ∙ journal_first_fault-spelling s.0 s.1,
)

pub returns-clause-one_journal : goal.returns-clause-one_journal
returns-clause-one_journal c = journal_spelling-injective

pub returns-clause-read_back : goal.returns-clause-read_back
returns-clause-read_back c = journal_parts_of-spelling
