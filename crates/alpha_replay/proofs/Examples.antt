-- Journals whose items are played by the definitions alone.
use Rattle.std.specs.Int.{int_wrap}
use Rattle.std.proofs.Common.{◌≡◌, ℕ, List, [], ◌∷◌, true, Option, Some, Result, Ok, Err, refl}
use Rattle.alpha_words.specs.declared.Level.TheVariants as levels
use Rattle.alpha_words.specs.declared.Completion.TheVariants.{Wrap}
use Rattle.alpha_words.specs.Digits.{digits, number}
use Rattle.alpha_words.specs.Regs.{reg, put}
use Rattle.alpha_table.specs.Code.{class_at}
use Rattle.alpha_table.specs.Words.{class_in}
use Rattle.alpha_values.specs.Bits.{pairwise}
use Rattle.alpha_values.specs.Cond.{is_taken}
use Rattle.alpha_values.specs.Numbers.{register_of}
use Rattle.alpha_values.specs.Address.{address_of, high_address_of, access_address}
use Rattle.alpha_values.specs.Op.{result_of}
use Rattle.alpha_values.specs.TrapOp.{overflow_of, completed_of}
use Rattle.alpha_mem.specs.Fault.{fault_of, each_within}
use Rattle.alpha_mem.specs.Memory.{bytes_at, write_bytes}
use Rattle.alpha_pal.specs.Call.{call}
use Rattle.alpha_image.specs.declared.version.Version.TheVariants as versions
use Rattle.alpha_image.specs.Layout.{longword}
use Rattle.alpha_image.specs.Parts.{place_of}
use Rattle.alpha_seq.specs.declared.end.End.{End}
use Rattle.alpha_seq.specs.declared.end.End.TheVariants.{Exit}
use Rattle.alpha_seq.specs.State.{Program}
use Rattle.alpha_seq.specs.Start.{start_memory, start_regs}
use Rattle.alpha_seq.specs.Run.{log}
use Rattle.alpha_trap.specs.Scan.{fits, greatest_below}
use Rattle.alpha_imprecise.specs.Run.{seen as seen_in}
use Rattle.alpha_imprecise.specs.ChosenRun.{end_of_imprecise_event}
use Rattle.alpha_replay.specs.declared.item.Item.{Item}
use Rattle.alpha_replay.specs.declared.item.Item.TheVariants.{Units, Trigger, Wait, Report}
use Rattle.alpha_replay.specs.Listed.{Played, listed}

-- `lda $1,-1($31); srl $1,1,$1; bis $31,1,$2; addq/v $1,$2,$3; addq/v $1,$1,$4; trapb; xor $3,$4,$16; lda $0,1($31);
-- callsys` at 65,536 with a stack of 16 bytes and no segment
abbrev two_overflows : Program
two_overflows = record {
  image = record {
    version = versions.Two;
    level = levels.One;
    code_base = 65536;
    entry = 65536;
    stack = 16;
    segments = [];
    words =
        0x203fffff ∷ 0x48203681 ∷ 0x47e03402 ∷ 0x40220c03 ∷ 0x40210c04 ∷ 0x63ff0000 ∷ 0x44640810 ∷ 0x201f0001 ∷ 0x83
        ∷ [];
    bytes = [];
  };
  completion = Wrap;
}

-- how items end the program, the overflows that were logged and the units
record ExampleReplay : Type 0 where
  end : Option End
  logged : List ℕ
  units : ℕ

abbrev seen_of : Result Played ℕ → Result ExampleReplay ℕ
seen_of (Ok p) =
    Ok
    (record {
      end = end_of_imprecise_event p.run.at.last_event;
      logged = log (seen_in p.run.steps);
      units = p.run.units;
    })
seen_of (Err n) = Err n

-- what items over an empty input lead to
unfoldable example_replay : List Item → Result ExampleReplay ℕ
unfolding int_wrap digits number reg put class_at class_in pairwise is_taken register_of address_of high_address_of
    access_address result_of overflow_of completed_of fault_of each_within bytes_at write_bytes call longword place_of
    start_memory start_regs fits greatest_below
example_replay items = seen_of (listed two_overflows [] items)

-- The second overflow is executed while the first one waits, and adds to the mask. The barrier reports the first, and
-- behind it the second triggers.
example_replay-exits : example_replay (Units 3 ∷ Trigger 9 ∷ Wait true 9 ∷ Report ∷ Trigger 9 ∷ Report ∷ Units 4 ∷ [])
    ≡ Ok (record { end = Some (Exit 9223372036854775806); logged = 65548 ∷ 65552 ∷ []; units = 9 })
unfolding example_replay
example_replay-exits = refl

-- the word behind two steps doesn't overflow
example_replay-early_trigger : example_replay
    (Units 2 ∷ Trigger 9 ∷ Wait true 9 ∷ Report ∷ Trigger 9 ∷ Report ∷ Units 4 ∷ [])
    ≡ Err 1
unfolding example_replay
example_replay-early_trigger = refl

-- three steps behind a report reach the exit alone, and nothing follows it
example_replay-behind_exit : example_replay
    (Units 3 ∷ Trigger 9 ∷ Wait true 9 ∷ Report ∷ Trigger 9 ∷ Report ∷ Units 5 ∷ [])
    ≡ Err 6
unfolding example_replay
example_replay-behind_exit = refl

-- no word is executed at a barrier while a trap is pending
example_replay-waits_at_barrier : example_replay (Units 3 ∷ Trigger 9 ∷ Wait true 9 ∷ Wait true 9 ∷ []) ≡ Err 3
unfolding example_replay
example_replay-waits_at_barrier = refl

-- a trap is pending, so no unit follows
example_replay-unit_while_pending : example_replay (Units 3 ∷ Trigger 9 ∷ Units 1 ∷ []) ≡ Err 2
unfolding example_replay
example_replay-unit_while_pending = refl

-- nothing is pending, so nothing is reported
report_without_pending : example_replay (Units 3 ∷ Report ∷ []) ≡ Err 1
unfolding example_replay
report_without_pending = refl
