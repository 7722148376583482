-- The laws of `replay`, and what leads to its answers.
use Rattle.std.proofs.Common.{◌≡◌, ◌∙◌, ◌⊎◌, ℕ, List, All, Option, None, Some, Result, Ok, Err, IfErr, refl, sym, ap}
use Rattle.std.proofs.Common.{subst, inl, inr}
use Rattle.alpha_io.specs.Files.{Files, KeepsFiles}
use Rattle.alpha_image.specs.Parts.{Parts as Image, IsByte}
use Rattle.alpha_image.proofs.ReadSpelling.{IsBytes-All}
use Rattle.alpha_replay.specs.declared.fault.JournalFault.{JournalFault}
use Rattle.alpha_replay.specs.declared.replay_fault.ReplayFault.{ReplayFault}
use Rattle.alpha_replay.specs.declared.replaying.Replayed.{Replayed}
use Rattle.alpha_replay.specs.Journal.{Parts, IsJournal, spelling}
use Rattle.alpha_replay.specs.JournalFault.{first_fault}
use Rattle.alpha_replay.specs.Reading.{parts_of}
use Rattle.alpha_replay.specs.Replay.{replayed}
use Rattle.alpha_replay.proofs.JournalSpelling.{journal_spelling-injective, journal_first_fault-spelling}
use Rattle.alpha_replay.proofs.JournalSpelling.{journal-no_fault}
use Rattle.alpha_cmd.specs.declared.status.Status.TheVariants.{BadJournal, NotARun, NoMemory}
use Rattle.alpha_cmd.specs.declared.stop.Stop.{Stop}
use Rattle.alpha_cmd.specs.declared.stop.Stop.TheVariants.{OfStatus}
use Rattle.alpha_cmd.specs.Status.{status_line}
use Rattle.alpha_cmd.specs.Outcome.{continues, stops, Then, Gives}
use Rattle.alpha_cmd.specs.Image.{Reads, ImageOf}
use Rattle.alpha_cmd.specs.Answer.{Answer}
use Rattle.alpha_cmd.specs.AnswerBy.{World}
use Rattle.alpha_cmd.specs.Commands.Replay.{journal_limit, SpellsJournal, JournalOf, Plays, RunOf, shown, form, there}
use Rattle.alpha_cmd.specs.Stage.{StopsBy, stop_status, stop_line}
use Rattle.alpha_cmd.specs.declared.status.Status.{Status}
use Rattle.alpha_cmd.proofs.Lawful.{Lawful, IsRefusal, HasOutcome, Faults-lawful, Then-lawful, Gives-lawful}
use Rattle.alpha_cmd.proofs.StageLaws.{Reads-lawful, ImageOf-lawful, HasFile-IsByte, KeepsFiles-equal}
use Rattle.alpha_cmd.proofs.FormLaws.{IsLawfulForm, is_fault}

-- ---- a journal

spells_some : (bytes : List ℕ) → All IsByte bytes → (fault : Option JournalFault) → first_fault bytes ≡ fault
    → HasOutcome (SpellsJournal bytes)
spells_some bytes all None e = (continues (parts_of bytes), journal-no_fault bytes (IsBytes-All bytes all) e)
spells_some bytes all (Some fault) e =
    (stops (BadJournal fault) (status_line (BadJournal fault)), ((fault, refl, e), refl))

SpellsJournal-lawful : (told whole there : Type 0) (bytes : List ℕ) → (whole → All IsByte bytes)
    → Lawful told whole there (SpellsJournal bytes)
SpellsJournal-lawful told whole there bytes all =
    Faults-lawful (λ p. IsJournal p × (bytes ≡ spelling p)) BadJournal (first_fault bytes) Some (λ f g e. cc)
    (λ f. refl)
    (λ a b h g. journal_spelling-injective a b h.0 g.0 (sym h.1 ∙ g.1))
    (λ a f h first. let none = ap first_fault h.1 ∙ journal_first_fault-spelling a h.0 in cc)
    (λ h. spells_some bytes (all h) (first_fault bytes) refl)

-- ---- its run

plays_some : (image : Image) (p : Parts) (answer : Result Replayed ReplayFault) → replayed image p ≡ answer
    → HasOutcome (Plays image p)
plays_some image p (Ok r) e = (continues r, e)
plays_some image p (Err fault) e = (stops (NotARun fault) (status_line (NotARun fault)), ((fault, refl, e), refl))

Plays-lawful : (told whole there : Type 0) (image : Image) (p : Parts) → Lawful told whole there (Plays image p)
Plays-lawful told whole there image p =
    Faults-lawful (λ r. replayed image p ≡ Ok r) NotARun (replayed image p) Err (λ f g e. cc) (λ f. refl)
    (λ r t h g. cc) (λ r f h none. cc)
    (λ h. plays_some image p (replayed image p) refl)

-- ---- the command

pub replay_form-lawful : (file journal : List ℕ) (w : World) → IsLawfulForm (form file journal) (there file journal) w
replay_form-lawful file journal w = record {
  stages =
      Then-lawful {R = RunOf w.files file journal} {S = λ r. Gives (shown w.input r)}
      (Then-lawful {R = ImageOf w.files file} {S = λ image. Then (JournalOf w.files journal) (Plays image)}
      (ImageOf-lawful _ _ _ w.files file (λ h. h) (λ h. h) (λ h. h.0))
      (λ image found.
      Then-lawful {R = JournalOf w.files journal} {S = Plays image}
      (Then-lawful {R = Reads w.files journal journal_limit} {S = SpellsJournal}
      (Reads-lawful _ _ _ w.files journal journal_limit (λ h. h) (λ h. h.0) (λ h. h.1))
      (λ bytes read. SpellsJournal-lawful _ _ _ bytes (λ h. HasFile-IsByte w.files journal bytes h.0 h.1 read.0)))
      (λ p spelled. Plays-lawful _ _ _ image p)))
      (λ r ran. Gives-lawful (shown w.input r));
  ends = λ a h. inl (ap (λ (x : Answer). is_fault x.status) h.2);
  status = λ a h. ap (λ (x : Answer). x.status) h.2;
}

-- ---- its answers

-- a journal that is read after the image
pub journal_after : (a b : Files) (name : List ℕ) (p : Parts) → KeepsFiles a b → JournalOf b name (continues p)
    → JournalOf a name (continues p)
journal_after a b name p kept h = subst (λ f. JournalOf f name (continues p)) (KeepsFiles-equal a b kept) h

-- a journal that is no run, or want of memory
pub played_by : (shelf : Type 0) (a : Files) (file name : List ℕ) (image : Image) (p : Parts) (r : Result Replayed Stop)
    → ImageOf a file (continues image)
    → JournalOf a name (continues p)
    → IfErr r (λ s. Plays image p (stops (stop_status s) (stop_line s)) ⊎ (s ≡ OfStatus NoMemory))
    → IfErr r (StopsBy (RunOf a file name) shelf)
played_by shelf a file name image p (Ok x) found spelled h = tt
played_by shelf a file name image p (Err s) found spelled (inl h) = inl (inr (image, found, inr (p, spelled, h)))
played_by shelf a file name image p (Err s) found spelled (inr e) = inr (inl e)

-- where it stops it is refused
pub run_plain : (file journal : List ℕ) (files : Files) (s : Status) (line : List ℕ)
    → RunOf files file journal (stops s line) → IsRefusal ⊥ s
run_plain file journal files =
    (Then-lawful {R = ImageOf files file} {S = λ image. Then (JournalOf files journal) (Plays image)}
    (ImageOf-lawful ⊥ ⊥ ⊥ files file (λ no. absurd no) (λ no. absurd no) (λ no. absurd no))
    (λ image found.
    Then-lawful {R = JournalOf files journal} {S = Plays image}
    (Then-lawful {R = Reads files journal journal_limit} {S = SpellsJournal}
    (Reads-lawful ⊥ ⊥ ⊥ files journal journal_limit (λ no. absurd no) (λ no. absurd no) (λ no. absurd no))
    (λ bytes read. SpellsJournal-lawful ⊥ ⊥ ⊥ bytes (λ no. absurd no)))
    (λ p spelled. Plays-lawful ⊥ ⊥ ⊥ image p))).plain
