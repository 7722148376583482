use Rattle.std.proofs.Common.{◌∷◌, ◌++◌, ◌∙◌, [], ℕ, List, take, ap}
use Rattle.alpha_io.specs.History.{Put}
use Rattle.alpha_io.specs.Heard.{Heard}
use Rattle.alpha_io.proofs.Puts.{grown-more}
use Rattle.alpha_io.proofs.stream.WriteSinkSink.put.Goals as goal

pub returns-in-Ok-clause-bytes : goal.returns-in-Ok-clause-bytes
returns-in-Ok-clause-bytes g c =
    let took : List ℕ = take c.in-Ok.count c.args.bytes.now in
    grown-more c.args.self.now.replies c.note_put.new.self.replies took
    (c.note_put.ensures ∙ ap (λ (h : Heard). h.replies ++ Put took ∷ []) c.self.view_is)
