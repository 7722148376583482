use Rattle.std.proofs.Common.{◌≡◌, Bool, Ok, Err, length, sym, ap, ◌∙◌, ℕ}
use Rattle.alpha_replay.specs.declared.replay_fault.ReplayFault.TheVariants as faults
use Rattle.alpha_replay.specs.Items.{units_of}
use Rattle.alpha_replay.specs.Journal.{parts}
use Rattle.alpha_seq.specs.Run.{output}
use Rattle.alpha_imprecise.specs.Run.{seen}
use Rattle.alpha_replay.specs.ReplayEffect.{place}
use Rattle.alpha_replay.specs.Replay.{ends_seen}
use Rattle.alpha_replay.proofs.ReplayAnswers.{CursorAt-by, listed-StopsAt, item_fault, output_fault, end_fault}
use Rattle.alpha_replay.proofs.ReplayAnswers.{input_fault}
use Rattle.alpha_replay.proofs.ReplayAnswers.{no_fault, eqb-length_not_zero, eqb-length_zero}
use Rattle.alpha_replay.proofs.replaying.play_all.Goals as goal

pub returns-in-Err : goal.returns-in-Err
returns-in-Err c = λ image how begins.
    let p = parts how c.args.ending.now c.args.input.now.left c.args.output.now c.args.items.now in
    item_fault image p c.in-Err.n
    (listed-StopsAt (record { image = image; completion = how }) c.args.wild.now c.args.input.now.left c.args.items.now
    c.in-Err.n begins c.in-Err.ensures.refused)

pub returns-in-Some : goal.returns-in-Some
returns-in-Some c = λ image how begins.
    let p = parts how c.args.ending.now c.args.input.now.left c.args.output.now c.args.items.now in
    let b = place c.play_items.new.wild c.play_items.new.input.left c.in-Ok.stand in
    let h = CursorAt-by (record { image = image; completion = how }) c.args.wild.now c.args.input.now.left
    c.args.items.now c.args.output.now b begins c.in-Ok.ensures.played in
    output_fault image p b h c.in-Some.at (c.difference.ensures (output (seen h.steps)) h.sees ∙ c.in-Some.is)

pub returns-then-not-ends_as : goal.returns-then-not-ends_as
returns-then-not-ends_as c = λ image how begins.
    let p = parts how c.args.ending.now c.args.input.now.left c.args.output.now c.args.items.now in
    let b = place c.play_items.new.wild c.play_items.new.input.left c.in-Ok.stand in
    let h = CursorAt-by (record { image = image; completion = how }) c.args.wild.now c.args.input.now.left
    c.args.items.now c.args.output.now b begins c.in-Ok.ensures.played in
    end_fault image p b h (c.difference.ensures (output (seen h.steps)) h.sees ∙ c.in_default.is)
    (sym
    (c.ends_as.ensures
    ∙ ap (λ (calm : Bool). ends_seen c.args.ending.now c.in-Ok.stand.last calm) c.has_no_pending.ensures)
    ∙ c.if-not-ends_as.true)

pub returns-then-left-ne0 : goal.returns-then-left-ne0
returns-then-left-ne0 c = λ image how begins.
    let p = parts how c.args.ending.now c.args.input.now.left c.args.output.now c.args.items.now in
    let b = place c.play_items.new.wild c.play_items.new.input.left c.in-Ok.stand in
    let h = CursorAt-by (record { image = image; completion = how }) c.args.wild.now c.args.input.now.left
    c.args.items.now c.args.output.now b begins c.in-Ok.ensures.played in
    let left_is : length c.rest-left.result.now ≡ length c.play_items.new.input.left = ap length c.rest-left.ensures in
    ap (λ (n : ℕ). Err (faults.Input n)) left_is
    ∙ input_fault image p b h (c.difference.ensures (output (seen h.steps)) h.sees ∙ c.in_default.is)
    (sym
    (c.ends_as.ensures
    ∙ ap (λ (calm : Bool). ends_seen c.args.ending.now c.in-Ok.stand.last calm) c.has_no_pending.ensures)
    ∙ c.if-not-ends_as.false)
    (eqb-length_not_zero c.play_items.new.input.left (length c.rest-left.result.now) left_is c.if-left-ne0.true)

pub returns : goal.returns
returns c = λ image how begins.
    let p = parts how c.args.ending.now c.args.input.now.left c.args.output.now c.args.items.now in
    let b = place c.play_items.new.wild c.play_items.new.input.left c.in-Ok.stand in
    let h = CursorAt-by (record { image = image; completion = how }) c.args.wild.now c.args.input.now.left
    c.args.items.now c.args.output.now b begins c.in-Ok.ensures.played in
    ap (λ (n : ℕ). Ok (record { units = n; reports = c.reports_of.result })) c.units_of.ensures.value
    ∙ (ap (λ (n : ℕ). Ok (record { units = units_of c.args.items.now; reports = n })) c.reports_of.ensures.value
    ∙ no_fault image p b h (c.difference.ensures (output (seen h.steps)) h.sees ∙ c.in_default.is)
    (sym
    (c.ends_as.ensures
    ∙ ap (λ (calm : Bool). ends_seen c.args.ending.now c.in-Ok.stand.last calm) c.has_no_pending.ensures)
    ∙ c.if-not-ends_as.false)
    (eqb-length_zero c.play_items.new.input.left (length c.rest-left.result.now)
    (ap length c.rest-left.ensures) c.if-left-ne0.false))
