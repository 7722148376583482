-- A journal that was kept is replayed.
use Rattle.std.proofs.Common.{◌≡◌, ◌≤◌, ◌*◌, ◌∙◌, ◌++◌, ℕ, Bool, List, [], ◌∷◌, length, Option, Some, None, Ok, IsSome}
use Rattle.std.proofs.Common.{refl, ap, arith}
use Rattle.std.proofs.lemmas.List.{length-append}
use Rattle.std.specs.List.{flat_map}
use Rattle.alpha_io.specs.Files.{Files, HasFile}
use Rattle.alpha_image.specs.Parts.{Parts as Image, image_spelling}
use Rattle.alpha_request.specs.declared.options.RunOptions.{RunOptions}
use Rattle.alpha_request.specs.Origin.{Origin}
use Rattle.alpha_imprecise.specs.ChosenRun.{first_words, most_words}
use Rattle.alpha_replay.specs.declared.item.Item.{Item}
use Rattle.alpha_replay.specs.declared.item.Item.TheVariants.{Units}
use Rattle.alpha_replay.specs.declared.replaying.Replayed.{Replayed}
use Rattle.alpha_replay.specs.Items.{item_bytes}
use Rattle.alpha_replay.specs.Journal.{Parts, IsJournal, numbers, header_bytes, spelling}
use Rattle.alpha_replay.specs.JournalEnd.{IsRecorded}
use Rattle.alpha_replay.specs.GatheredItems.{items_of}
use Rattle.alpha_replay.specs.Replay.{reports_of, replayed}
use Rattle.alpha_replay.proofs.HeaderBytes.{length-journal_header}
use Rattle.alpha_replay.proofs.ItemBytes.{length-item_bytes}
use Rattle.alpha_replay.proofs.JournaledReplays.{journaled_lists, journaled_replays}
use Rattle.alpha_cmd.specs.declared.status.Status.{Status}
use Rattle.alpha_cmd.specs.declared.status.Status.TheVariants.{Done}
use Rattle.alpha_cmd.specs.Outcome.{continues}
use Rattle.alpha_cmd.specs.Answer.{Answer}
use Rattle.alpha_cmd.specs.AnswerBy.{World, AnswerBy}
use Rattle.alpha_cmd.specs.Image.{ImageOf}
use Rattle.alpha_cmd.specs.Commands.Imprecise.{Plan}
use Rattle.alpha_cmd.specs.Commands.Record.{HasJournal, KeepsRun}
use Rattle.alpha_cmd.specs.Commands.Replay as replays
use Rattle.alpha_cmd.specs.Call.{Call}
use Rattle.alpha_cmd.specs.RecordRan.{ShowsRecord, ReadsAndKeeps}
use Rattle.alpha_cmd.specs.RunAnswer.{program_by}
use Rattle.alpha_cmd.proofs.AcceptedFiles.{spelling-ImageOf}
use Rattle.alpha_cmd.proofs.Commands.Replay.{replay_form-lawful}
use Rattle.alpha_cmd.proofs.FormLaws.{AnswerBy-unique}

-- ---- a good journal is short enough for a file of a call

item_most : (i : Item) → length (item_bytes i) ≤ 10
item_most (Units n) = omega (arith, length-item_bytes (Units n))
item_most i = omega (arith, length-item_bytes i)

items_most : (is : List Item) → length (flat_map item_bytes is) ≤ 10 * length is
items_most [] = omega arith
items_most (i ∷ is) = omega (arith, length-append (item_bytes i) (flat_map item_bytes is), item_most i, items_most is)

short_enough : (p : Parts) → IsJournal p → length (spelling p) ≤ replays.journal_limit
unfolding spelling
short_enough p good =
    let items = flat_map item_bytes p.items in
    omega (
      arith,
      length-append (header_bytes (numbers p)) (p.input ++ (p.output ++ items)),
      length-append p.input (p.output ++ items),
      length-append p.output items,
      length-journal_header (numbers p),
      items_most p.items,
      good.few_items,
      good.few_input,
      good.few_output,
    )

-- ---- the journal of a run

recorded_replays : (options : RunOptions) (image : Image) (input : List ℕ) (ahead : ℕ → ℕ) (p : Parts)
    → IsRecorded options.steps (program_by options image) input ahead p
    → (r : Replayed) × (replayed image p ≡ Ok r)
recorded_replays options image input ahead p h =
    let words = first_words (most_words options.steps) ahead in
    let g = program_by options image in
    let r : Replayed = record { units = h.place.run.units; reports = reports_of (items_of h.place.run.steps) } in (
      r,
      ap (replayed image) h.is
          ∙ journaled_replays options.steps image options.complete input words h.place h.stops h.within
          (journaled_lists options.steps g input words h.place h.stops),
    )

told_journal : (options : RunOptions) (input : Option (List ℕ)) (plan : Plan) (p : Parts) → IsSome input
    → HasJournal options input plan p → (r : Replayed) × (replayed plan.image p ≡ Ok r)
told_journal options None plan p told has = cc
told_journal options (Some input) plan p told has = recorded_replays options plan.image input plan.ahead p has

-- where the image is there, and the journal, its replay is done
replay_done : (file out : List ℕ) (v : World) (a : Answer) (image : Image) (p : Parts) → IsSome v.files
    → ImageOf v.files file (continues image) → IsJournal p → HasFile v.files out (spelling p)
    → (r : Replayed) × (replayed image p ≡ Ok r)
    → AnswerBy (replays.steps file out) v a → a.status ≡ Done 0
replay_done file out v a image p files is good there run answered =
    let b : Answer = replays.shown v.input run.0 in
    let answers : AnswerBy (replays.steps file out) v b = (
      continues b,
      (run.0, (image, is, (p, (spelling p, (there, short_enough p good), (good, refl)), run.1)), refl),
      refl,
    ) in
    ap (λ (x : Answer). x.status)
    (AnswerBy-unique (replays.form file out) (replays.there file out) v
    (replay_form-lawful file out v) a b files answered
    answers)

pub kept_replay : (options : RunOptions) (choices : Origin)
    (force : Bool) (file out image journal : List ℕ) (w v : World) (new : Files) (a : Answer)
    → IsSome w.input → IsSome v.files
    → (kept : KeepsRun options choices force file out w new)
    → ImageOf v.files image (continues kept.0.image) → HasFile v.files journal (spelling kept.2.0)
    → AnswerBy (replays.steps image journal) v a → a.status ≡ Done 0
kept_replay options choices force file out image journal w v new a told files (plan, planned, (p, good, has, before))
    found there is =
    replay_done image journal v a plan.image p files found good there (told_journal options w.input plan p told has) is

-- by the bytes that were read and kept
pub read_replay : (options : RunOptions) (choices : Origin) (force : Bool) (file out image journal input : List ℕ)
    (status : Status) (c : Call) (v : World) (a : Answer) → c.input.old.left ≡ Some input
    → (r : ReadsAndKeeps c.shelf choices file out (λ plan p. ShowsRecord options force plan p status c))
    → IsSome v.files → HasFile v.files image (image_spelling r.plan.image)
    → HasFile v.files journal (spelling r.journal)
    → AnswerBy (replays.steps image journal) v a → a.status ≡ Done 0
read_replay options choices force file out image journal input status c v a told r files found there is =
    replay_done image journal v a r.plan.image r.journal files
    (spelling-ImageOf r.plan.image v.files image r.is.good found) r.good there
    (recorded_replays options r.plan.image input r.plan.ahead r.journal (r.has.ran.told input told)) is
