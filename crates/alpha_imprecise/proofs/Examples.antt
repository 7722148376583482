-- Runs of the imprecise machine that are computed by the definitions alone.
use Rattle.std.specs.Int.{int_wrap}
use Rattle.std.proofs.Common.{◌≡◌, ℕ, List, [], ◌∷◌, Option, None, Some, refl}
use Rattle.alpha_words.specs.declared.Level.TheVariants as levels
use Rattle.alpha_words.specs.declared.Completion.{Completion}
use Rattle.alpha_words.specs.declared.Completion.TheVariants.{Wrap, Saturate, Stop}
use Rattle.alpha_words.specs.Digits.{digits, number}
use Rattle.alpha_words.specs.Regs.{reg, put}
use Rattle.alpha_table.specs.Code.{class_at}
use Rattle.alpha_table.specs.Words.{class_in}
use Rattle.alpha_values.specs.Bits.{pairwise}
use Rattle.alpha_values.specs.Cond.{is_taken}
use Rattle.alpha_values.specs.Numbers.{register_of}
use Rattle.alpha_values.specs.Address.{address_of, high_address_of, access_address}
use Rattle.alpha_values.specs.Op.{result_of}
use Rattle.alpha_values.specs.TrapOp.{overflow_of, completed_of}
use Rattle.alpha_mem.specs.Fault.{fault_of, each_within}
use Rattle.alpha_mem.specs.Memory.{bytes_at, write_bytes}
use Rattle.alpha_pal.specs.Call.{call}
use Rattle.alpha_image.specs.declared.version.Version.TheVariants as versions
use Rattle.alpha_image.specs.Layout.{longword}
use Rattle.alpha_image.specs.Parts.{place_of}
use Rattle.alpha_seq.specs.declared.end.End.{End}
use Rattle.alpha_seq.specs.declared.end.End.TheVariants.{Exit, Access, Overflow}
use Rattle.alpha_seq.specs.State.{Program}
use Rattle.alpha_seq.specs.Start.{start_memory, start_regs, start}
use Rattle.alpha_seq.specs.Run.{log}
use Rattle.alpha_trap.specs.Scan.{fits, greatest_below}
use Rattle.alpha_imprecise.specs.Run.{seen as seen_in}
use Rattle.alpha_imprecise.specs.ChosenRun.{ChosenRun, begun, chosen_run, LostTrap, end_of_imprecise_event, lost_trap}

-- words at 65,536 with a stack of 16 bytes and no segment
abbrev example_program : List ℕ → Completion → Program
example_program words completion = record {
  image = record {
    version = versions.Two;
    level = levels.One;
    code_base = 65536;
    entry = 65536;
    stack = 16;
    segments = [];
    words = words;
    bytes = [];
  };
  completion = completion;
}

-- how a run of at most so many units ended, the trap that was lost, the overflows that were logged, the units and how
-- many words were drawn
record ExampleRun : Type 0 where
  end : Option End
  lost : Option LostTrap
  logged : List ℕ
  units : ℕ
  drawn : ℕ

abbrev example_of : ChosenRun → ExampleRun
example_of k = record {
  end = end_of_imprecise_event k.run.at.last_event;
  lost = lost_trap k.run.at.last_event;
  logged = log (seen_in k.run.steps);
  units = k.run.units;
  drawn = k.count;
}

-- the run by these words, over an empty input
unfoldable example_run : Completion → ℕ → List ℕ → List ℕ → ExampleRun
unfolding int_wrap digits number reg put class_at class_in pairwise is_taken register_of address_of high_address_of
    access_address result_of overflow_of completed_of fault_of each_within bytes_at write_bytes call longword place_of
    start_memory start_regs fits greatest_below
example_run completion n code words =
    let g = example_program code completion in
    example_of (chosen_run g (begun (start g) [] None 0 words) n)

abbrev example_exit : ℕ → List ℕ → ℕ → ℕ → ExampleRun
example_exit value logged units drawn =
    record { end = Some (Exit value); lost = None; logged = logged; units = units; drawn = drawn }

-- `lda $1,-1($31); srl $1,1,$1; bis $31,1,$2; addq/v $1,$2,$3; addq/v $1,$1,$4; trapb; xor $3,$4,$16; lda $0,1($31);
-- callsys`
abbrev two_overflows : List ℕ
two_overflows =
    0x203fffff ∷ 0x48203681 ∷ 0x47e03402 ∷ 0x40220c03 ∷ 0x40210c04 ∷ 0x63ff0000 ∷ 0x44640810 ∷ 0x201f0001 ∷ 0x83 ∷ []

-- the second overflow is executed while the first one waits, and adds to the mask; the barrier reports the first, and
-- behind it the second triggers
two_overflows-saturate : example_run Saturate 9 two_overflows (9 ∷ 5 ∷ 9 ∷ 9 ∷ [])
    ≡ example_exit 0 (65548 ∷ 65552 ∷ []) 9 4
unfolding example_run
two_overflows-saturate = refl

two_overflows-wrap : example_run Wrap 9 two_overflows (9 ∷ 5 ∷ 9 ∷ 9 ∷ [])
    ≡ example_exit 9223372036854775806 (65548 ∷ 65552 ∷ []) 9 4
unfolding example_run
two_overflows-wrap = refl

abbrev stops_at : ℕ → ℕ → ℕ → ExampleRun
stops_at pc units drawn =
    record { end = Some (Overflow pc); lost = None; logged = []; units = units; drawn = drawn }

-- a stop comes at the report, by the unit of the trigger
two_overflows-stop : example_run Stop 4 two_overflows (9 ∷ 5 ∷ 9 ∷ 9 ∷ []) ≡ stops_at 65548 4 3
unfolding example_run
two_overflows-stop = refl

two_overflows-spent : example_run Stop 3 two_overflows (9 ∷ 5 ∷ 9 ∷ 9 ∷ [])
    ≡ record { end = None; lost = None; logged = []; units = 3; drawn = 0 }
unfolding example_run
two_overflows-spent = refl

-- `lda $17,-1($31); srl $17,1,$17; addq/v $17,$30,$16; trapb; lda $0,1($31); callsys`: the registers that an entry
-- saves
abbrev in_frame : List ℕ
in_frame = 0x223fffff ∷ 0x4a203691 ∷ 0x423e0c10 ∷ 0x63ff0000 ∷ 0x201f0001 ∷ 0x83 ∷ []

in_frame-wrap : example_run Wrap 6 in_frame (7 ∷ []) ≡ example_exit 9223372037928517631 (65544 ∷ []) 6 1
unfolding example_run
in_frame-wrap = refl

in_frame-saturate : example_run Saturate 6 in_frame (7 ∷ []) ≡ example_exit 9223372036854775807 (65544 ∷ []) 6 1
unfolding example_run
in_frame-saturate = refl

-- `lda $1,-1($31); srl $1,1,$1; bis $31,1,$2` in front: then $1 is 2 ^ 63 - 1 and $2 is 1
abbrev behind_two : List ℕ → List ℕ
behind_two code = 0x203fffff ∷ 0x48203681 ∷ 0x47e03402 ∷ code

-- `lda $0,1($31); callsys`
abbrev exit_code : List ℕ
exit_code = 0x201f0001 ∷ 0x83 ∷ []

-- `addq/v $1,$2,$3; ldq $4,0($31); trapb`: a fault is reported before it comes
fault-pending : example_run Wrap 9 (behind_two (0x40220c03 ∷ 0xa49f0000 ∷ 0x63ff0000 ∷ [])) (3 ∷ [])
    ≡ record { end = Some (Access 65552 0); lost = None; logged = 65548 ∷ []; units = 5; drawn = 1 }
unfolding example_run
fault-pending = refl

-- `br $31,.+8; addq/v $2,$2,$5; addq/v $1,$2,$3; nop; trapb; bis $31,$31,$16` and the exit
branched-pending : example_run Wrap 100
    (behind_two (0xc3e00001 ∷ 0x40420c05 ∷ 0x40220c03 ∷ 0x47ff041f ∷ 0x63ff0000 ∷ 0x47ff0410 ∷ exit_code))
    (9 ∷ 1 ∷ 7 ∷ [])
    ≡ example_exit 0 (65556 ∷ []) 10 3
unfolding example_run
branched-pending = refl

-- `addq/v $1,$2,$1; trapb; bis $1,$1,$16` and the exit: the source is lost
source-lost : example_run Saturate 100 (behind_two (0x40220c01 ∷ 0x63ff0000 ∷ 0x44210410 ∷ exit_code)) (5 ∷ [])
    ≡ example_exit 6 (65548 ∷ []) 8 1
unfolding example_run
source-lost = refl

abbrev example_lost : ℕ → ℕ → ℕ → ℕ → ExampleRun
example_lost pc mask units drawn =
    record { end = None; lost = Some (record { pc = pc; mask = mask }); logged = []; units = units; drawn = drawn }

-- `addq/v $1,$2,$31; trapb`: the mask is empty
mask-empty : example_run Wrap 100 (behind_two (0x40220c1f ∷ 0x63ff0000 ∷ exit_code)) (5 ∷ []) ≡ example_lost 65552 0 4 1
unfolding example_run
mask-empty = refl

-- `addq/v $1,$2,$3; br $31,.+4; trapb`: the turn is no place to scan over
turn-pending : example_run Wrap 100 (behind_two (0x40220c03 ∷ 0xc3e00000 ∷ 0x63ff0000 ∷ [])) (0 ∷ 1 ∷ 0 ∷ [])
    ≡ example_lost 65556 8 4 3
unfolding example_run
turn-pending = refl

-- `addq/v $1,$2,$3; addq/v $2,$2,$3; trapb; bis $3,$3,$16` and the exit: the scan finds the later one
abbrev same_destination : List ℕ
same_destination = behind_two (0x40220c03 ∷ 0x40420c03 ∷ 0x63ff0000 ∷ 0x44630410 ∷ exit_code)

same_destination-wrap : example_run Wrap 100 same_destination (0 ∷ 1 ∷ 9 ∷ []) ≡ example_exit 2 (65552 ∷ []) 8 3
unfolding example_run
same_destination-wrap = refl

same_destination-stop : example_run Stop 100 same_destination (0 ∷ 1 ∷ 9 ∷ []) ≡ stops_at 65552 4 3
unfolding example_run
same_destination-stop = refl

-- `addq/v $1,$2,$3; ldq $4,-8($30); stq $2,-8($30); trapb; bis $4,$4,$16` and the exit: the load is made again, behind
-- the store of other bytes
load-again : example_run Wrap 100
    (behind_two (0x40220c03 ∷ 0xa49efff8 ∷ 0xb45efff8 ∷ 0x63ff0000 ∷ 0x44840410 ∷ exit_code))
    (0 ∷ 1 ∷ 0 ∷ 1 ∷ 7 ∷ [])
    ≡ example_exit 7 (65548 ∷ []) 10 5
unfolding example_run
load-again = refl

-- `ldq_l $4,-8($30); addq/v $1,$2,$3; stq_c $31,-8($30); trapb; ldq $16,-8($30)` and the exit: a pending conditional
-- store that succeeds stores other bytes, and is made again without the flag
conditional-pending : example_run Wrap 100
    (behind_two (0xac9efff8 ∷ 0x40220c03 ∷ 0xbffefff8 ∷ 0x63ff0000 ∷ 0xa61efff8 ∷ exit_code)) (0 ∷ 1 ∷ 7 ∷ [])
    ≡ example_exit 7 (65552 ∷ []) 10 3
unfolding example_run
conditional-pending = refl
