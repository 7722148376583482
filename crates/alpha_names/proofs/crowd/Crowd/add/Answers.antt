use Rattle.std.proofs.Common.{◌≡◌, ℕ, true, false, ap, sym, ◌∙◌}
use Rattle.std.proofs.lemmas.Result.{IfOk-weaker}
use Rattle.alpha_names.specs.Hashes.{slow_hash}
use Rattle.alpha_names.specs.Tree.{slot_in, seek_in}
use Rattle.alpha_names.specs.Finder.{Grows, Keeps, number_in_crowd, other_number}
use Rattle.alpha_names.specs.declared.crowd.Crowd.{Crowd}
use Rattle.alpha_names.proofs.TreeSearches.{is_free}
use Rattle.alpha_names.proofs.NumberLookups.{grows_free, grows_elsewhere, keeps_elsewhere, OnErr-weaker, not_free}
use Rattle.alpha_names.proofs.crowd.Crowd.add.Goals as goal
use Rattle.alpha_names.proofs.crowd.Crowd.add.Goals.{in_default-via-in-Taken+else-is_named, in_default-via-in_default}

pub returns-in_ok-fill-in-Free-clause-ok : goal.returns-in_ok-fill-in-Free-clause-ok
returns-in_ok-fill-in-Free-clause-ok g c = λ added.
    let old : Crowd = c.args.self.now in
    let new : Crowd = record { tree = c.fill.new.self; others = old.others } in
    grows_free (slot_in old.tree) (slot_in new.tree) slow_hash
    (other_number old.others) c.args.name.now c.args.number c.in-Free.place c.slow_hash-hash.result
    c.slow_hash-hash.ensures (sym c.seek.ensures.value ∙ c.in-Free.is) c.in_ok-fill-in-Free.ensures.ok

pub returns-in_default-clause-ok : goal.returns-in_default-clause-ok
returns-in_default-clause-ok g c =
    let old : Crowd = c.args.self.now in
    let new : Crowd = record { tree = old.tree; others = c.add.new.self } in
    let here : c.seek.result ≡ seek_in (slot_in old.tree) (slow_hash c.args.name.now) =
    c.seek.ensures.value ∙ ap (λ (h : ℕ). seek_in (slot_in old.tree) h) c.slow_hash-hash.ensures in
    let taken : is_free c.seek.result ≡ false = elim c.in_default.branch [
      | in_default-via-in-Taken+else-is_named w ↦ ap is_free w.in-Taken.is
      | in_default-via-in_default w ↦ not_free c.seek.result w.in_default.not-Free
    ] in
    IfOk-weaker c.add.result
    (λ added. added ≡ true → Grows (other_number old.others) (other_number new.others) c.args.name.now c.args.number)
    (λ added. added ≡ true → Grows (number_in_crowd old) (number_in_crowd new) c.args.name.now c.args.number)
    (λ added f t. grows_elsewhere (slot_in old.tree) slow_hash (other_number old.others)
    (other_number new.others) c.args.name.now c.args.number
    (ap is_free (sym here) ∙ taken) (f t))
    c.add.ensures.ok

pub returns-in_default-clause-again : goal.returns-in_default-clause-again
returns-in_default-clause-again g c =
    let old : Crowd = c.args.self.now in
    let new : Crowd = record { tree = old.tree; others = c.add.new.self } in
    IfOk-weaker c.add.result (λ added. added ≡ false → Keeps (other_number old.others) (other_number new.others))
    (λ added. added ≡ false → Keeps (number_in_crowd old) (number_in_crowd new))
    (λ added f t.
    keeps_elsewhere (slot_in old.tree) slow_hash (other_number old.others) (other_number new.others) (f t))
    c.add.ensures.again

pub returns-in_default-clause-same : goal.returns-in_default-clause-same
returns-in_default-clause-same g c =
    let old : Crowd = c.args.self.now in
    let new : Crowd = record { tree = old.tree; others = c.add.new.self } in
    OnErr-weaker c.add.result (Keeps (other_number old.others) (other_number new.others))
    (Keeps (number_in_crowd old) (number_in_crowd new))
    (keeps_elsewhere (slot_in old.tree) slow_hash (other_number old.others) (other_number new.others))
    c.add.ensures.same
