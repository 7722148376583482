use Rattle.std.proofs.Common.{◌∙◌, arith}
use Rattle.std.proofs.lemmas.List.{take_rest}
use Rattle.std.proofs.lemmas.Result.{err_from_is_err_and}
use Rattle.alpha_replay.specs.JournalHeader.{header_numbers}
use Rattle.alpha_replay.proofs.JournalSpelling.{Refuses-header_bytes, Refuses-items, fault-none, header_fault-HasHeader}
use Rattle.alpha_replay.proofs.JournalSpelling.{items_fault-HasItems, cut_front, items_in-cut, parts-cut}
use Rattle.alpha_replay.proofs.JournalSpelling.{IsJournal-parts_of}
use Rattle.alpha_replay.proofs.JournalSpelling.{journal_spelling-parts_of}
use Rattle.alpha_replay.proofs.read.read_journal.Goals as goal

pub returns-in_err-front-clause-fault : goal.returns-in_err-front-clause-fault
returns-in_err-front-clause-fault c =
    let p = err_from_is_err_and c.from_residual.result c.from_residual.ensures.1 in
    rw (p.1, p.2)
    (Refuses-header_bytes c.in_err-front.field-0.0 c.args.bytes.now c.in_err-front.ensures.memory
    c.in_err-front.ensures.fault)

pub returns-in_err-check_items-clause-fault : goal.returns-in_err-check_items-clause-fault
returns-in_err-check_items-clause-fault c =
    let p =
    err_from_is_err_and c.from_residual-in_err-check_items.result c.from_residual-in_err-check_items.ensures.1 in
    rw (p.1, p.2)
    (Refuses-items c.in_err-check_items.field-0.0 c.args.bytes.now c.in_err-check_items.ensures.memory
    c.in_ok-front.ensures.fault c.in_err-check_items.ensures.fault)

pub returns-in_err-input-clause-fault : goal.returns-in_err-input-clause-fault
returns-in_err-input-clause-fault c =
    let p = err_from_is_err_and c.from_residual-in_err-input.result c.from_residual-in_err-input.ensures.1 in
    rw (p.1, p.2) (fault-none c.args.bytes.now c.in_ok-front.ensures.fault c.in_ok-check_items.ensures.fault)

pub returns-in_err-output-clause-fault : goal.returns-in_err-output-clause-fault
returns-in_err-output-clause-fault c =
    let p = err_from_is_err_and c.from_residual-in_err-output.result c.from_residual-in_err-output.ensures.1 in
    rw (p.1, p.2) (fault-none c.args.bytes.now c.in_ok-front.ensures.fault c.in_ok-check_items.ensures.fault)

pub read_items-requires : goal.read_items-requires
read_items-requires c =
    let bytes = c.args.bytes.now in
    let f = c.in_ok-front.front in
    let front = rw (take_rest bytes 38) at c.split_at.ensures.front in
    let back = rw (take_rest bytes 38) at c.split_at.ensures.back in
    let cut = cut_front bytes (header_numbers f) _ c.split_at.result.1.now _ c.split_at-2.result.1.now front back
    c.split_at-2.ensures.front c.split_at-2.ensures.back in
    let has = items_fault-HasItems bytes c.in_ok-check_items.ensures.fault in (
      has.0,
      items_in-cut bytes (header_numbers f) _ _ c.split_at-2.result.1.now c.in_ok-front.ensures.numbers cut ∙ has.1.is,
    )

pub returns-in_err-items-clause-fault : goal.returns-in_err-items-clause-fault
returns-in_err-items-clause-fault c =
    let p = err_from_is_err_and c.from_residual-in_err-items.result c.from_residual-in_err-items.ensures.1 in
    rw (p.1, p.2) (fault-none c.args.bytes.now c.in_ok-front.ensures.fault c.in_ok-check_items.ensures.fault)

pub of_parts-requires : goal.of_parts-requires
of_parts-requires c =
    let bytes = c.args.bytes.now in
    let f = c.in_ok-front.front in
    let front = rw (take_rest bytes 38) at c.split_at.ensures.front in
    let back = rw (take_rest bytes 38) at c.split_at.ensures.back in
    let cut = cut_front bytes (header_numbers f) _ c.split_at.result.1.now _ c.split_at-2.result.1.now front back
    c.split_at-2.ensures.front c.split_at-2.ensures.back in
    let same = parts-cut bytes (header_numbers f) _ _ c.split_at-2.result.1.now c.in_ok-items.items.items
    c.in_ok-front.ensures.numbers cut c.in_ok-items.ensures.value in
    let has = items_fault-HasItems bytes c.in_ok-check_items.ensures.fault in
    let good = IsJournal-parts_of bytes has.0 (λ i. omega (arith, c.type_inv.bytes i))
    (header_fault-HasHeader bytes c.in_ok-front.ensures.fault) has.1 in
    rw (
      c.completion.ensures.value,
      c.ending.ensures.value,
      c.in_ok-input.ensures.items,
      c.in_ok-output.ensures.items,
      same,
    ) good

pub returns-clause-spelled : goal.returns-clause-spelled
returns-clause-spelled c =
    let bytes = c.args.bytes.now in
    let f = c.in_ok-front.front in
    let front = rw (take_rest bytes 38) at c.split_at.ensures.front in
    let back = rw (take_rest bytes 38) at c.split_at.ensures.back in
    let cut = cut_front bytes (header_numbers f) _ c.split_at.result.1.now _ c.split_at-2.result.1.now front back
    c.split_at-2.ensures.front c.split_at-2.ensures.back in
    let same = parts-cut bytes (header_numbers f) _ _ c.split_at-2.result.1.now c.in_ok-items.items.items
    c.in_ok-front.ensures.numbers cut c.in_ok-items.ensures.value in
    let has = items_fault-HasItems bytes c.in_ok-check_items.ensures.fault in
    let whole = journal_spelling-parts_of bytes has.0 (λ i. omega (arith, c.type_inv.bytes i))
    (header_fault-HasHeader bytes c.in_ok-front.ensures.fault) has.1 in
    rw (
      c.of_parts.ensures.value,
      c.completion.ensures.value,
      c.ending.ensures.value,
      c.in_ok-input.ensures.items,
      c.in_ok-output.ensures.items,
      same,
    ) whole

pub returns-clause-fault : goal.returns-clause-fault
returns-clause-fault c = fault-none c.args.bytes.now c.in_ok-front.ensures.fault c.in_ok-check_items.ensures.fault
