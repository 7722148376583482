use Rattle.std.proofs.Common.{◌≡◌, string_bytes}
use Rattle.alpha_io.proofs.FileMaps.{file_map-stored, get-insert_same, get-insert_other}
use Rattle.alpha_io.proofs.memory.shelf.store.Goals as goal

pub returns-clause-stored : goal.returns-clause-stored
returns-clause-stored c =
    let stored = file_map-stored c.args.files.now c.insert.new.self
    (string_bytes c.in_ok-key.key) c.in_ok-value.value c.in_ok-insert.ensures.updates in
    let items : c.in_ok-value.value.items ≡ c.args.bytes.now =
    c.in_ok-value.ensures.items_if_clones_equal (λ x y h. h) in
    rw (c.in_ok-key.ensures.ok, items) at stored

pub returns-clause-there : goal.returns-clause-there
returns-clause-there c = rw (returns-clause-stored c) (get-insert_same _ c.args.name.now c.args.bytes.now)

pub returns-clause-others : goal.returns-clause-others
returns-clause-others c =
    λ other differs. rw (returns-clause-stored c) (get-insert_other _ c.args.name.now c.args.bytes.now other differs)
