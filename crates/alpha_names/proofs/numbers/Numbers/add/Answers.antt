use Rattle.std.proofs.Common.{◌≡◌, ℕ, true, false, ap, sym, ◌∙◌}
use Rattle.std.proofs.lemmas.Result.{IfOk-weaker}
use Rattle.alpha_names.specs.Hashes.{quick_hash}
use Rattle.alpha_names.specs.Tree.{slot_in, seek_in}
use Rattle.alpha_names.specs.Finder.{Grows, Keeps, number_in, number_in_crowd}
use Rattle.alpha_names.specs.declared.numbers.Numbers.{Numbers}
use Rattle.alpha_names.proofs.TreeSearches.{is_free}
use Rattle.alpha_names.proofs.NumberLookups.{grows_free, grows_elsewhere, keeps_elsewhere, OnErr-weaker, not_free}
use Rattle.alpha_names.proofs.numbers.Numbers.add.Goals as goal
use Rattle.alpha_names.proofs.numbers.Numbers.add.Goals.{in_default-via-in-Taken+else-is_named}
use Rattle.alpha_names.proofs.numbers.Numbers.add.Goals.{in_default-via-in_default}

pub returns-in_ok-fill-in-Free-clause-ok : goal.returns-in_ok-fill-in-Free-clause-ok
returns-in_ok-fill-in-Free-clause-ok g c = λ added.
    let old : Numbers = c.args.self.now in
    let new : Numbers = record { tree = c.fill.new.self; crowd = old.crowd } in
    grows_free (slot_in old.tree) (slot_in new.tree) quick_hash
    (number_in_crowd old.crowd) c.args.name.now c.args.number c.in-Free.place c.quick_hash-hash.result
    c.quick_hash-hash.ensures (sym c.seek.ensures.value ∙ c.in-Free.is) c.in_ok-fill-in-Free.ensures.ok

pub returns-in_default-clause-ok : goal.returns-in_default-clause-ok
returns-in_default-clause-ok g c =
    let old : Numbers = c.args.self.now in
    let new : Numbers = record { tree = old.tree; crowd = c.add.new.self } in
    let here : c.seek.result ≡ seek_in (slot_in old.tree) (quick_hash c.args.name.now) =
    c.seek.ensures.value ∙ ap (λ (h : ℕ). seek_in (slot_in old.tree) h) c.quick_hash-hash.ensures in
    let taken : is_free c.seek.result ≡ false = elim c.in_default.branch [
      | in_default-via-in-Taken+else-is_named w ↦ ap is_free w.in-Taken.is
      | in_default-via-in_default w ↦ not_free c.seek.result w.in_default.not-Free
    ] in
    IfOk-weaker c.add.result
    (λ added. added ≡ true
    → Grows (number_in_crowd old.crowd) (number_in_crowd new.crowd) c.args.name.now c.args.number)
    (λ added. added ≡ true → Grows (number_in old) (number_in new) c.args.name.now c.args.number)
    (λ added f t. grows_elsewhere (slot_in old.tree) quick_hash (number_in_crowd old.crowd)
    (number_in_crowd new.crowd) c.args.name.now c.args.number
    (ap is_free (sym here) ∙ taken) (f t))
    c.add.ensures.ok

pub returns-in_default-clause-again : goal.returns-in_default-clause-again
returns-in_default-clause-again g c =
    let old : Numbers = c.args.self.now in
    let new : Numbers = record { tree = old.tree; crowd = c.add.new.self } in
    IfOk-weaker c.add.result (λ added. added ≡ false → Keeps (number_in_crowd old.crowd) (number_in_crowd new.crowd))
    (λ added. added ≡ false → Keeps (number_in old) (number_in new))
    (λ added f t.
    keeps_elsewhere (slot_in old.tree) quick_hash (number_in_crowd old.crowd) (number_in_crowd new.crowd) (f t))
    c.add.ensures.again

pub returns-in_default-clause-same : goal.returns-in_default-clause-same
returns-in_default-clause-same g c =
    let old : Numbers = c.args.self.now in
    let new : Numbers = record { tree = old.tree; crowd = c.add.new.self } in
    OnErr-weaker c.add.result (Keeps (number_in_crowd old.crowd) (number_in_crowd new.crowd))
    (Keeps (number_in old) (number_in new))
    (keeps_elsewhere (slot_in old.tree) quick_hash (number_in_crowd old.crowd) (number_in_crowd new.crowd))
    c.add.ensures.same
