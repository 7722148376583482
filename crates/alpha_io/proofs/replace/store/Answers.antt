use Rattle.alpha_io.proofs.FileReplacementLaws.{write-FailsBeforeRename, sync-FailsBeforeRename}
use Rattle.alpha_io.proofs.FileReplacementLaws.{rename-FailsBeforeRename, OnErr-always}
use Rattle.alpha_io.proofs.replace.store.Goals as goal

pub returns-in_err-write-clause-refused : goal.returns-in_err-write-clause-refused
returns-in_err-write-clause-refused g c =
    OnErr-always c.from_residual.result
    (write-FailsBeforeRename (g.N.NewFile.calls c.args.new.now)
    (g.N.NewFile.calls c.write.new.self) c.args.bytes.now c.in_err-write.ensures)

pub returns-in_err-sync-clause-refused : goal.returns-in_err-sync-clause-refused
returns-in_err-sync-clause-refused g c =
    OnErr-always c.from_residual-in_err-sync.result
    (sync-FailsBeforeRename (g.N.NewFile.calls c.args.new.now) (g.N.NewFile.calls c.write.new.self)
    (g.N.NewFile.calls c.sync.new.self) c.args.bytes.now c.in_ok-write.ensures c.in_err-sync.ensures)

pub returns-clause-refused : goal.returns-clause-refused
returns-clause-refused g c =
    rename-FailsBeforeRename (g.N.NewFile.calls c.args.new.now) (g.N.NewFile.calls c.write.new.self)
    (g.N.NewFile.calls c.sync.new.self) (g.N.NewFile.calls c.rename.new.self) c.args.bytes.now c.rename.result
    c.in_ok-write.ensures c.in_ok-sync.ensures c.rename.ensures
