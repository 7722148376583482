use Rattle.std.proofs.Common.{◌≡◌, ◌⊎◌, ℕ, List, refl, subst, inl, inr, arith}
use Rattle.alpha_io.proofs.ShelfLaws.{KeepsFiles-refl}
use Rattle.alpha_seq.specs.Devices.{drawn}
use Rattle.alpha_cmd.specs.declared.status.Status.TheVariants.{Done, SinkFault, NoMemory}
use Rattle.alpha_cmd.specs.Accepts.{Accepts}
use Rattle.alpha_cmd.specs.Alike.{Alike}
use Rattle.alpha_cmd.specs.AnswerBy.{told}
use Rattle.alpha_cmd.specs.Asks.{AsksFor}
use Rattle.alpha_cmd.specs.Call.{called}
use Rattle.alpha_cmd.specs.Checked.{Checked}
use Rattle.alpha_cmd.specs.Commands.Link.{KeepsLinks}
use Rattle.alpha_cmd.specs.SourceCommands.Module.{KeepsModules}
use Rattle.alpha_cmd.specs.Commands.Record.{KeepsUnder}
use Rattle.alpha_cmd.specs.Fixed.{Fixes}
use Rattle.alpha_cmd.specs.Listed.{Listed}
use Rattle.alpha_cmd.specs.Promises.{EndsWhole, EndsCut, GivesOne, GivesThe, SparesFiles, TakesInput, LeavesScript}
use Rattle.alpha_cmd.specs.Promises.{EndsAsked, LosesNone}
use Rattle.alpha_cmd.specs.Ran.{Ran}
use Rattle.alpha_cmd.specs.RunsAsked.{RunsAsked}
use Rattle.alpha_cmd.specs.ReadsNothing.{Unread, UnreadAlike}
use Rattle.alpha_cmd.specs.Replayed.{ShowsRuns}
use Rattle.alpha_cmd.specs.Replied.{Replies}
use Rattle.alpha_cmd.specs.Restarts.{Restarts}
use Rattle.alpha_cmd.specs.ToldRun.{RanTold}
use Rattle.alpha_cmd.proofs.JournalStatus.{journal_status-no_end}
use Rattle.alpha_cmd.proofs.EndStatuses.{HasEnded-not_NoMemory, IsRunEnd-HasEnded}
use Rattle.alpha_cmd.proofs.InputLeft.{untouched_input}
use Rattle.alpha_cmd.proofs.EndsWhere.{EndsAsRun-fails_always}
use Rattle.alpha_cmd.proofs.entry.alpha_main.Goals as goal

pub returns-in-Ok : goal.returns-in-Ok
returns-in-Ok g c =
    let did = called g.H.Shelf g.S.Source g.K.Sink g.N.Sink c.args.devices.now c.alpha_top.new.devices in
    let status = c.alpha_top.result in
    let is = c.in-Ok.ensures in
    let done = c.alpha_top.ensures in
    record {
      whole = inl (subst (λ (words : List (List ℕ)). EndsWhole words status did) is done.whole);
      part = subst (λ (words : List (List ℕ)). EndsCut words status did) is done.part;
      shelf = done.shelf;
      files = subst (λ (words : List (List ℕ)). SparesFiles words status did) is done.files;
      input =
          subst (λ (words : List (List ℕ)). (c.alpha_top.new.devices.input ≡ c.args.devices.now.input)
          ⊎ TakesInput words status)
          is done.input;
      source = done.source;
      rest = done.rest;
      ended = subst (λ (words : List (List ℕ)). EndsAsked words status) is done.ended;
      found = subst (λ (words : List (List ℕ)). LosesNone words status) is done.found;
      script = subst (λ (words : List (List ℕ)). LeavesScript words did.input) is done.script;
      given = subst (λ (words : List (List ℕ)). GivesOne words status did) is done.given;
      exact = subst (λ (words : List (List ℕ)). GivesThe words status did) is done.exact;
      replied = subst (λ (words : List (List ℕ)). Replies words status did.shelf) is done.replied;
      restarts = subst (λ (words : List (List ℕ)). Restarts words status did.shelf) is done.restarts;
      checked = subst (λ (words : List (List ℕ)). Checked words status did.shelf) is done.checked;
      accepted = subst (λ (words : List (List ℕ)). Accepts words status did) is done.accepted;
      ran_told = subst (λ (words : List (List ℕ)). RanTold words status did) is done.ran_told;
      runs = subst (λ (words : List (List ℕ)). RunsAsked words status did) is done.runs;
      ran = subst (λ (words : List (List ℕ)). Ran words status did) is done.ran;
      listed = subst (λ (words : List (List ℕ)). Listed words status did) is done.listed;
      alike = subst (λ (words : List (List ℕ)). Alike words status did) is done.alike;
      unread = subst (λ (words : List (List ℕ)). Unread words status did) is done.unread;
      unread_alike = subst (λ (words : List (List ℕ)). UnreadAlike words status did) is done.unread_alike;
      fixed = subst (λ (words : List (List ℕ)). Fixes words status did.shelf.old did.shelf.new) is done.fixed;
      modules =
          subst (λ (words : List (List ℕ)). KeepsModules words status did.shelf.old did.shelf.new) is done.modules;
      links = subst (λ (words : List (List ℕ)). KeepsLinks words status did.shelf.old did.shelf.new) is done.links;
      replays = subst (λ (words : List (List ℕ)). ShowsRuns words status did.shelf.old) is done.replays;
      recorded =
          subst (λ (words : List (List ℕ)). KeepsUnder (AsksFor words) status (told did) did.shelf.new) is
          done.recorded;
    }

-- memory ran out before the words were gathered
pub returns-in-Err : goal.returns-in-Err
returns-in-Err g c =
    let quiet = untouched_input (drawn g.S.Source c.args.devices.now.input c.args.devices.now.input) refl in
    let undone : NoMemory ≡ Done 0 → ⊥ = λ e. cc in
    record {
      whole = inr (refl, refl, refl, refl, refl);
      part = λ e. absurd (let x : NoMemory ≡ SinkFault = e in cc);
      shelf = record { takes = refl; later = omega arith; faults_unchanged = λ stays. refl };
      files = inl (KeepsFiles-refl (g.H.Shelf.files c.args.devices.now.shelf));
      input = inl refl;
      source = record { later = omega arith; faults_unchanged = λ stays. refl };
      rest = quiet.0;
      ended = λ is. absurd cc;
      found = λ options choices file lost asks e. cc;
      script = λ file asks. quiet;
      runs = λ command asks. record {
        shows = λ ends. absurd (HasEnded-not_NoMemory ends);
        ends = EndsAsRun-fails_always command NoMemory _ (inl refl);
      };
      ran = λ file plain. (
        λ is. record {
          shows = λ ends. absurd (HasEnded-not_NoMemory (IsRunEnd-HasEnded NoMemory ends));
          ends = λ image good has read. inr (inl refl);
        },
        λ is. record {
          shows = λ ends. absurd (HasEnded-not_NoMemory (IsRunEnd-HasEnded NoMemory ends));
          ends = λ image good accepted read. inr (inl refl);
        },
      );
      listed = λ file asks. record { shows = λ e. absurd (undone e); ends = λ image good read. inr (inl refl) };
      given = λ quiet. inr refl;
      exact = λ a told quiet is. inr refl;
      replied = λ command asks e. absurd (undone e);
      restarts = λ file asks e. absurd (undone e);
      checked = λ file is plain e. absurd (undone e);
      accepted = λ image file asks good safe files there quiet. inr refl;
      ran_told = λ name bytes image asks plain tells quiet. inr refl;
      alike = λ options file bytes image asks tells quiet. inr refl;
      unread = λ options file image asks files found unread quiet. inr refl;
      unread_alike = λ options choices force file image asks files found unread has checked quiet. inr refl;
      fixed = λ file out asks e. absurd (undone e);
      modules = λ file out asks e. absurd (undone e);
      links = λ entry out files asks e. absurd (undone e);
      replays = λ file journal asks e. absurd (undone e);
      recorded = λ options choices force file out end lost n asks is.
          absurd (journal_status-no_end end lost n NoMemory is (inr refl));
    }
