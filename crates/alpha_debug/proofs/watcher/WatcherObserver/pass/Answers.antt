use Rattle.alpha_debug.proofs.WatchedSteps.{watcher_passes}
use Rattle.alpha_debug.proofs.watcher.WatcherObserver.pass.Goals as goal

pub returns : goal.returns
returns c = watcher_passes c.args.self.now c.args._count c.requires
