use Rattle.alpha_replay.proofs.JournaledRuns.{IsJournaled-single, journaled_run}
use Rattle.alpha_replay.proofs.JournalBounds.{IsJournaled-exists, IsJournaled-bounds}
use Rattle.alpha_replay.proofs.InputPrefixes.{list_feeds}
use Rattle.alpha_replay.proofs.JournaledReplays.{journaled_lists, journaled_replays}
use Rattle.alpha_replay.proofs.JournalTold.{stops_told}
use Rattle.alpha_replay.proofs.laws.laws_of_journaled_runs.Goals as goal

pub returns : goal.returns
returns c = record {
  some = IsJournaled-exists;
  few = IsJournaled-bounds;
  one = λ n g from k l. IsJournaled-single n g from k l;
  runs = λ n g from k. journaled_run n g from k;
  listed = journaled_lists;
  taken = λ n g items p q front rest. list_feeds g n items p q front rest;
  replayed = λ n image how input words k is within.
      journaled_replays n image how input words k is within
      (journaled_lists n (record { image = image; completion = how }) input words k is);
  told = λ n last old new before after input out sink s bytes coming tells.
      stops_told n last old new before after input out sink s bytes coming tells;
}
