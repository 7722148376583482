-- What a replay has read before it begins was read once, so its status is that of this journal on this image.
use Rattle.std.proofs.Common.{◌≡◌, ◌≢◌, ◌∙◌, ◌⊎◌, ◌++◌, ℕ, List, [], None, Result, Ok, Err, IfErr, sym, ap, subst, inl}
use Rattle.std.proofs.Common.{inr, append-nil}
use Rattle.alpha_io.specs.History.{Reply, IsReadWhole, IsReadInPart}
use Rattle.alpha_io.proofs.FilePieces.{one_read, part-not_whole, IsReadWhole-unique}
use Rattle.alpha_image.specs.Parts.{Parts as Image, image_spelling}
use Rattle.alpha_image.proofs.Spelled.{image_spelling-injective}
use Rattle.alpha_replay.specs.declared.replay_fault.ReplayFault.{ReplayFault}
use Rattle.alpha_replay.specs.declared.replaying.Replayed.{Replayed}
use Rattle.alpha_replay.specs.Journal.{Parts, spelling}
use Rattle.alpha_replay.specs.JournalFault.{first_fault}
use Rattle.alpha_replay.specs.Replay.{replayed}
use Rattle.alpha_replay.proofs.JournalSpelling.{journal_spelling-injective, journal_first_fault-spelling}
use Rattle.alpha_cmd.specs.declared.status.Status.{Status}
use Rattle.alpha_cmd.specs.declared.status.Status.TheVariants.{NoMemory}
use Rattle.alpha_cmd.specs.declared.stop.Stop.{Stop}
use Rattle.alpha_cmd.specs.declared.stop.Stop.TheVariants.{OfStatus}
use Rattle.alpha_cmd.specs.Outcome.{stops}
use Rattle.alpha_cmd.specs.Commands.Replay.{SpellsJournal, Plays}
use Rattle.alpha_cmd.specs.ReplayRan.{IsReplayRead, status_replayed}
use Rattle.alpha_cmd.specs.ShowsDone.{IsOrFails}
use Rattle.alpha_cmd.specs.Stage.{stop_status, stop_line}
use Rattle.alpha_cmd.proofs.PlansRead.{IsReadWhole-behind, IsReadInPart-behind}

-- ---- a journal that wasn't taken

-- memory ran out, the file was read in part, or its bytes have a fault
abbrev pub IsUntaken : List Reply → List Reply → List ℕ → Stop → Type 0
IsUntaken old new name stop =
    (stop ≡ OfStatus NoMemory)
    ⊎ (IsReadInPart old new name ⊎ ((bytes : List ℕ) × IsReadWhole old new name bytes × (first_fault bytes ≢ None)))

faulty_untaken : (old new : List Reply) (name bytes : List ℕ) (stop : Stop) → IsReadWhole old new name bytes
    → SpellsJournal bytes (stops (stop_status stop) (stop_line stop))
    ⊎ ((stop ≡ OfStatus NoMemory) × (first_fault bytes ≡ None))
    → IsUntaken old new name stop
faulty_untaken old new name bytes stop read (inl ((fault, is, first), line)) =
    inr (inr (bytes, read, λ none. let e = sym first ∙ none in cc))
faulty_untaken old new name bytes stop read (inr h) = inl h.0

pub IfErr-untaken : {T : Type 0} (old new : List Reply) (name bytes : List ℕ) (r : Result T Stop)
    → IsReadWhole old new name bytes
    → IfErr r (λ stop. SpellsJournal bytes (stops (stop_status stop) (stop_line stop))
    ⊎ ((stop ≡ OfStatus NoMemory) × (first_fault bytes ≡ None)))
    → IfErr r (IsUntaken old new name)
IfErr-untaken old new name bytes (Ok v) read why = tt
IfErr-untaken old new name bytes (Err stop) read why = faulty_untaken old new name bytes stop read why

-- ---- both files were read once

-- the moment behind the image's file, whatever was asked behind it
same_middle : (old middle new : List Reply) (file journal : List ℕ) (image other : Image) (listed : Parts)
    → IsReadWhole old middle file (image_spelling image) → (rest : List Reply) × (new ≡ middle ++ rest)
    → (is : IsReplayRead old new file journal other listed)
    → (image_spelling image ≡ image_spelling other) × (middle ≡ is.middle)
same_middle old middle new file journal image other listed read (rest, behind) is =
    let (more, then) = IsReadWhole-behind is.middle new journal (spelling listed) is.read_journal in
    let one =
    one_read old middle is.middle file (image_spelling image) (image_spelling other) rest more read is.read
    (sym behind ∙ then) in (one.0, one.1.0)

pub same_replay : (old new : List Reply) (file journal : List ℕ) (a b : Image) (p q : Parts)
    → IsReplayRead old new file journal a p → IsReplayRead old new file journal b q → replayed a p ≡ replayed b q
same_replay old new file journal a b p q first second =
    let one =
    same_middle old first.middle new file journal a b q first.read
    (IsReadWhole-behind first.middle new journal (spelling p) first.read_journal) second in
    let image : a ≡ b = image_spelling-injective a b first.good second.good one.0 in
    let again : IsReadWhole second.middle new journal (spelling p) =
    subst (λ (l : List Reply). IsReadWhole l new journal (spelling p)) one.1 first.read_journal in
    let listed : p ≡ q =
    journal_spelling-injective p q first.is_journal second.is_journal
    (IsReadWhole-unique second.middle new journal (spelling p) (spelling q) again second.read_journal) in
    ap (λ (i : Image). replayed i p) image ∙ ap (λ (l : Parts). replayed b l) listed

-- a journal that wasn't taken wasn't read, unless memory ran out
untaken_unread : (old middle new : List Reply) (file name : List ℕ) (image other : Image) (listed : Parts) (stop : Stop)
    → IsReadWhole old middle file (image_spelling image) → IsReplayRead old new file name other listed
    → IsReadInPart middle new name ⊎ ((bytes : List ℕ) × IsReadWhole middle new name bytes × (first_fault bytes ≢ None))
    → ⊥
untaken_unread old middle new file name image other listed stop read is (inl part) =
    let at = (same_middle old middle new file name image other listed read (IsReadInPart-behind middle new name part)
    is).1 in
    part-not_whole middle new new [] name (spelling listed) part
    (subst (λ (l : List Reply). IsReadWhole l new name (spelling listed)) (sym at) is.read_journal)
    (sym (append-nil new))
untaken_unread old middle new file name image other listed stop read is (inr (bytes, whole, fault)) =
    let at = (same_middle old middle new file name image other listed read (IsReadWhole-behind middle new name bytes
    whole) is).1 in
    let same : bytes ≡ spelling listed =
    IsReadWhole-unique middle new name bytes (spelling listed) whole
    (subst (λ (l : List Reply). IsReadWhole l new name (spelling listed)) (sym at) is.read_journal) in
    fault (ap first_fault same ∙ journal_first_fault-spelling listed is.is_journal)

-- ---- the status of a replay that stopped

pub memory_fails : (wanted : Status) (stop : Stop) → stop ≡ OfStatus NoMemory → IsOrFails wanted (stop_status stop)
memory_fails wanted stop is = inr (inl (ap stop_status is))

pub untaken_fails : (old middle new : List Reply) (file name : List ℕ) (image other : Image) (listed : Parts)
    (stop : Stop) → IsReadWhole old middle file (image_spelling image) → IsReplayRead old new file name other listed
    → IsUntaken middle new name stop → IsOrFails (status_replayed (replayed other listed)) (stop_status stop)
untaken_fails old middle new file name image other listed stop read is (inl e) = memory_fails _ stop e
untaken_fails old middle new file name image other listed stop read is (inr h) =
    absurd (untaken_unread old middle new file name image other listed stop read is h)

played_stops : (image : Image) (p : Parts) (stop : Stop) (answer : Result Replayed ReplayFault)
    → replayed image p ≡ answer
    → Plays image p (stops (stop_status stop) (stop_line stop)) ⊎ (stop ≡ OfStatus NoMemory)
    → IsOrFails (status_replayed answer) (stop_status stop)
played_stops image p stop answer same (inl ((fault, is, first), line)) =
    inl (is ∙ ap status_replayed (sym first ∙ same))
played_stops image p stop answer same (inr e) = memory_fails (status_replayed answer) stop e

pub IfErr-played : {T : Type 0} (image : Image) (p : Parts) (r : Result T Stop)
    (answer : Result Replayed ReplayFault) → replayed image p ≡ answer
    → IfErr r (λ stop. Plays image p (stops (stop_status stop) (stop_line stop)) ⊎ (stop ≡ OfStatus NoMemory))
    → IfErr r (λ stop. IsOrFails (status_replayed answer) (stop_status stop))
IfErr-played image p (Ok v) answer same why = tt
IfErr-played image p (Err stop) answer same why = played_stops image p stop answer same why
