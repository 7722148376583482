use Rattle.std.proofs.Common.{◌≡◌, length, arith, rules}
use Rattle.alpha_shadow.proofs.WindowSteps.{notes_uses, notes_set}
use Rattle.alpha_shadow.proofs.window.Window.note.Goals as goal

pub returns-in-Some-clause-set : goal.returns-in-Some-clause-set
returns-in-Some-clause-set c = λ code h.
    let size : length c.args.self.now.set.ends ≡ 32 = search rules in
    notes_set code c.args.place c.in-Some.r c.args.columns.now c.args.self.now.set.ends c.note.new.self.ends h
    c.in-Some.is
    (let small = c.note.ensures.register in omega arith) size c.note.ensures.value

pub returns-in-Some-clause-used : goal.returns-in-Some-clause-used
returns-in-Some-clause-used c = λ code h.
    notes_uses code c.args.place c.args.columns.now c.args.self.now.used.ends c.note_all.new.self.ends h
    c.note_all.ensures.size c.note_all.ensures.members c.note_all.ensures.others

pub returns-in_default-clause-used : goal.returns-in_default-clause-used
returns-in_default-clause-used c = λ code h.
    notes_uses code c.args.place c.args.columns.now c.args.self.now.used.ends c.note_all.new.self.ends h
    c.note_all.ensures.size c.note_all.ensures.members c.note_all.ensures.others
