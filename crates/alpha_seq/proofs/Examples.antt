-- Programs whose ends are computed by the definitions alone.
use Rattle.std.specs.Int.{int_wrap}
use Rattle.std.specs.List.{flat_map}
use Rattle.std.specs.Prelude.{◌++◌, replicate}
use Rattle.std.proofs.Common.{◌≡◌, ℕ, List, [], ◌∷◌, false, Option, None, Some, refl}
use Rattle.alpha_words.specs.declared.Level.TheVariants as levels
use Rattle.alpha_words.specs.declared.Completion.{Completion}
use Rattle.alpha_words.specs.declared.Completion.TheVariants.{Wrap, Saturate, Stop}
use Rattle.alpha_words.specs.Digits.{digits, number, low_bytes}
use Rattle.alpha_words.specs.Regs.{reg, put}
use Rattle.alpha_table.specs.Code.{class_at}
use Rattle.alpha_table.specs.Words.{class_in}
use Rattle.alpha_values.specs.Bits.{pairwise, zeros_before_one}
use Rattle.alpha_values.specs.Cond.{is_taken}
use Rattle.alpha_values.specs.Numbers.{register_of}
use Rattle.alpha_values.specs.Address.{address_of, high_address_of, access_address}
use Rattle.alpha_values.specs.Op.{result_of}
use Rattle.alpha_values.specs.TrapOp.{overflow_of, completed_of}
use Rattle.alpha_mem.specs.Fault.{fault_of, each_within}
use Rattle.alpha_mem.specs.Memory.{bytes_at, write_bytes}
use Rattle.alpha_pal.specs.Call.{Silent, call}
use Rattle.alpha_image.specs.declared.version.Version.TheVariants as versions
use Rattle.alpha_image.specs.Layout.{longword}
use Rattle.alpha_image.specs.Parts.{place_of}
use Rattle.alpha_seq.specs.declared.end.End.{End}
use Rattle.alpha_seq.specs.declared.end.End.TheVariants.{Exit, Fetch, Access, Align, Overflow}
use Rattle.alpha_seq.specs.State.{Program, Event, Went, Barriered, Overflowed, Ends}
use Rattle.alpha_seq.specs.Start.{start_memory, start_regs, start}
use Rattle.alpha_seq.specs.Run.{after, sequential}

-- words at 65,536 with a stack of 16 bytes and no segment
abbrev example_program : List ℕ → Completion → Program
example_program words completion = record {
  image = record {
    version = versions.Two;
    level = levels.One;
    code_base = 65536;
    entry = 65536;
    stack = 16;
    segments = [];
    words = words;
    bytes = [];
  };
  completion = completion;
}

-- how the run of at most so many steps ends, over an empty input
unfoldable example_end : Completion → ℕ → List ℕ → Option End
unfolding int_wrap digits number reg put class_at class_in pairwise is_taken register_of address_of high_address_of
    access_address result_of overflow_of completed_of fault_of each_within bytes_at write_bytes call longword place_of
    start_memory start_regs
example_end completion n words = (sequential (example_program words completion) [] n false).end

-- how many steps that run has, and its overflows and barriers
unfoldable example_steps : Completion → ℕ → List ℕ → ℕ
unfolding example_end
example_steps completion n words = (sequential (example_program words completion) [] n false).steps

abbrev logged_overflow : Event → List Event
logged_overflow Went = []
logged_overflow (Ends end) = []
logged_overflow event = event ∷ []

unfoldable example_events : Completion → ℕ → List ℕ → List Event
unfolding example_end
example_events completion n words =
    let g = example_program words completion in
    flat_map logged_overflow (after g (start g) [] n).events

-- `lda $0,9($31); callsys; bis $0,$0,$16; lda $0,1($31); callsys`: there is no system call 9
abbrev no_such_call : List ℕ
no_such_call = 0x201f0009 ∷ 0x83 ∷ 0x44000410 ∷ 0x201f0001 ∷ 0x83 ∷ []

no_such_call-ends : example_end Wrap 5 no_such_call ≡ Some (Exit 78)
unfolding example_end
no_such_call-ends = refl

no_such_call-example_steps : example_steps Wrap 100 no_such_call ≡ 5
unfolding example_steps
no_such_call-example_steps = refl

no_such_call-spent : example_end Wrap 4 no_such_call ≡ None
unfolding example_end
no_such_call-spent = refl

-- `stq $1,0($27)` into the code, `ldq $1,1($31)`, and `ldq_u $1,5($31)`, which clears the low bits first
store-into_code : example_end Wrap 1 (0xb43b0000 ∷ []) ≡ Some (Access 65536 65536)
unfolding example_end
store-into_code = refl

load-unaligned : example_end Wrap 1 (0xa43f0001 ∷ []) ≡ Some (Align 65536 1)
unfolding example_end
load-unaligned = refl

load-anywhere : example_end Wrap 1 (0x2c3f0005 ∷ []) ≡ Some (Access 65536 0)
unfolding example_end
load-anywhere = refl

-- a load into R31 makes no access, `ldq $31,1($31)`, but a locked one does, `ldq_l $31,1($31)`
load-nowhere : example_end Wrap 2 (0xa7ff0001 ∷ []) ≡ Some (Fetch 65540)
unfolding example_end
load-nowhere = refl

locked-nowhere : example_end Wrap 2 (0xafff0001 ∷ []) ≡ Some (Align 65536 1)
unfolding example_end
locked-nowhere = refl

-- `lda $26,15($27); jsr $26,($26)`: the old R26 is the target, without its two low bits
jump-old : example_end Wrap 3 (0x235b000f ∷ 0x6b5a4000 ∷ []) ≡ Some (Fetch 65548)
unfolding example_end
jump-old = refl

-- `lda $1,-1($31); srl $1,1,$1; bis $31,1,$2; addq/v $1,$2,$3; addq/v $1,$1,$4; trapb; xor $3,$4,$16; lda $0,1($31);
-- callsys`
abbrev two_overflows : List ℕ
two_overflows =
    0x203fffff ∷ 0x48203681 ∷ 0x47e03402 ∷ 0x40220c03 ∷ 0x40210c04 ∷ 0x63ff0000 ∷ 0x44640810 ∷ 0x201f0001 ∷ 0x83 ∷ []

two_overflows-wrap : example_end Wrap 9 two_overflows ≡ Some (Exit 9223372036854775806)
unfolding example_end
two_overflows-wrap = refl

two_overflows-saturate : example_end Saturate 9 two_overflows ≡ Some (Exit 0)
unfolding example_end
two_overflows-saturate = refl

two_overflows-example_events : example_events Wrap 5 two_overflows ≡ Overflowed 65548 ∷ Overflowed 65552 ∷ []
unfolding example_events
two_overflows-example_events = refl

two_overflows-stop : example_end Stop 4 two_overflows ≡ Some (Overflow 65548)
unfolding example_end
two_overflows-stop = refl

two_overflows-logs_nothing : example_events Stop 9 two_overflows ≡ []
unfolding example_events
two_overflows-logs_nothing = refl

two_overflows-not_yet : example_end Stop 3 two_overflows ≡ None
unfolding example_end
two_overflows-not_yet = refl

-- `lda $1,7($31); ldq_l $2,-16($30); stq_c $1,-16($30); stq_c $3,-16($30); s4addq $1,$3,$16; lda $0,1($31); callsys`
locked_pair : example_end Wrap 7
    (0x203f0007 ∷ 0xac5efff0 ∷ 0xbc3efff0 ∷ 0xbc7efff0 ∷ 0x40230450 ∷ 0x201f0001 ∷ 0x83 ∷ [])
    ≡ Some (Exit 4)
unfolding example_end
locked_pair = refl

-- `lda $1,-1($31); stl $1,-16($30); ldl $2,-16($30); bis $2,$2,$16; lda $0,1($31); callsys`: a longword has a sign
longword-sign : example_end Wrap 6 (0x203fffff ∷ 0xb03efff0 ∷ 0xa05efff0 ∷ 0x44420410 ∷ 0x201f0001 ∷ 0x83 ∷ [])
    ≡ Some (Exit 18446744073709551615)
unfolding example_end
longword-sign = refl

-- `lda $1,-1($31); srl $1,1,$1; bis $31,1,$2; br $31,.+8; addq/v $2,$2,$5; addq/v $1,$2,$3; nop; trapb; bis
-- $31,$31,$16; lda $0,1($31); callsys`
abbrev branching_program : List ℕ
branching_program =
    0x203fffff ∷ 0x48203681 ∷ 0x47e03402 ∷ 0xc3e00001 ∷ 0x40420c05 ∷ 0x40220c03 ∷ 0x47ff041f ∷ 0x63ff0000 ∷ 0x47ff0410 ∷
    0x201f0001 ∷ 0x83 ∷ []

branching_program-example_steps : example_steps Wrap 100 branching_program ≡ 10
unfolding example_steps
branching_program-example_steps = refl

-- `lda $1,2($31); lda $2,3($31); addq/v $1,$2,$3; trapb; callsys`, whose two barriers can be watched
abbrev watched_program : List ℕ
watched_program = 0x203f0002 ∷ 0x205f0003 ∷ 0x40220c03 ∷ 0x63ff0000 ∷ 0x83 ∷ []

-- R0 to R3, R19 and the others
abbrev registers : ℕ → ℕ → List ℕ
registers r0 r19 = r0 ∷ 2 ∷ 3 ∷ 5 ∷ (replicate 15 0 ++ r19 ∷ (replicate 7 0 ++ 65536 ∷ 0 ∷ 0 ∷ 1073741824 ∷ 0 ∷ []))

watched_program-example_events : example_events Wrap 9 watched_program
    ≡ Barriered Silent 65552 (registers 0 0) ∷ Barriered Silent 65556 (registers 78 1) ∷ []
unfolding example_events
watched_program-example_events = refl

watched_program-ends : example_end Wrap 9 watched_program ≡ Some (Fetch 65556)
unfolding example_end
watched_program-ends = refl

-- `ldq_l $2,-16($30); stq $1,-16($30); stq_c $27,-8($30); bis $27,$27,$16; lda $0,1($31); callsys`: another store
-- leaves the flag, which stands for sixteen bytes
lock-stays : example_end Wrap 6 (0xac5efff0 ∷ 0xb43efff0 ∷ 0xbf7efff8 ∷ 0x477b0410 ∷ 0x201f0001 ∷ 0x83 ∷ [])
    ≡ Some (Exit 1)
unfolding example_end
lock-stays = refl

-- `ldq_l $2,-16($30); lda $0,9($31); callsys; stq_c $27,-16($30); bis $27,$27,$16; lda $0,1($31); callsys`: a system
-- call clears the flag, one that is refused too
lock-callsys : example_end Wrap 7 (0xac5efff0 ∷ 0x201f0009 ∷ 0x83 ∷ 0xbf7efff0 ∷ 0x477b0410 ∷ 0x201f0001 ∷ 0x83 ∷ [])
    ≡ Some (Exit 0)
unfolding example_end
lock-callsys = refl

-- `ldq_l $2,-16($30); lda $16,5($31); wrunique; rdunique; imb; stq_c $27,-16($30); addq $0,$27,$16; lda $0,1($31);
-- callsys`: the other calls leave it
lock-unique : example_end Wrap 9
    (0xac5efff0 ∷ 0x221f0005 ∷ 0x9f ∷ 0x9e ∷ 0x86 ∷ 0xbf7efff0 ∷ 0x401b0410 ∷ 0x201f0001 ∷ 0x83 ∷ [])
    ≡ Some (Exit 6)
unfolding example_end
lock-unique = refl

-- `lda $1,-1($31); srl $1,1,$1; ldq_l $2,-16($30); addq/v $1,$1,$3; stq_c $27,-16($30); bis $27,$27,$16; lda $0,1($31);
-- callsys`: an overflow clears it
lock-overflow : example_end Wrap 8
    (0x203fffff ∷ 0x48203681 ∷ 0xac5efff0 ∷ 0x40210c03 ∷ 0xbf7efff0 ∷ 0x477b0410 ∷ 0x201f0001 ∷ 0x83 ∷ [])
    ≡ Some (Exit 0)
unfolding example_end
lock-overflow = refl

-- `lda $0,3($31); lda $17,-16($30); lda $18,4($31); callsys; bis $0,$0,$18; lda $0,4($31); lda $16,1($31); callsys;
-- lda $0,1($31); callsys`: what is read is written, though the input has fewer bytes than were asked for
abbrev echo_program : List ℕ
echo_program =
    0x201f0003 ∷ 0x223efff0 ∷ 0x225f0004 ∷ 0x83 ∷ 0x44000412 ∷ 0x201f0004 ∷ 0x221f0001 ∷ 0x83 ∷ 0x201f0001 ∷ 0x83 ∷ []

echo_program-shown : sequential (example_program echo_program Wrap) (7 ∷ 8 ∷ 9 ∷ []) 100 false
    ≡ record { end = Some (Exit 1); steps = 10; output = 7 ∷ 8 ∷ 9 ∷ []; left = []; notes = [] }
unfolding example_end
echo_program-shown = refl

-- the same program at level 2 with two segments of 8 bytes
abbrev in_segments : List ℕ → Program
in_segments words = record {
  image = record (example_program words Wrap).image {
    level = levels.Two;
    segments =
        record { base = 0x10000000; filled = 8; zeroed = 0 } ∷ record { base = 0x10002000; filled = 8; zeroed = 0 }
        ∷ [];
    bytes = low_bytes 8 5 ++ low_bytes 8 7;
  };
  completion = Wrap;
}

-- `ldah $1,4096($31); ldq $2,0($1); ldah $3,4096($31); ldq $4,8192($3); addq $2,$4,$16; lda $0,1($31); callsys`
segments-ends : (sequential (in_segments (0x243f1000 ∷ 0xa4410000 ∷ 0x247f1000 ∷ 0xa4832000 ∷ 0x40440410 ∷ 0x201f0001
    ∷ 0x83 ∷ [])) [] 7 false).end ≡ Some (Exit 12)
unfolding example_end
segments-ends = refl

-- `lda $1,240($31); ctpop $1,$2; ctlz $1,$3; cttz $1,$4; implver $5; amask 255,$6; addq $2,$3,$16; addq $16,$4,$16;
-- addq $16,$5,$16; addq $16,$6,$16; lda $0,1($31); callsys`
level-ends : (sequential (in_segments (0x203f00f0 ∷ 0x73e10602 ∷ 0x73e10643 ∷ 0x73e10664 ∷ 0x47e03d85 ∷ 0x47fffc26
    ∷ 0x40430410 ∷ 0x42040410 ∷ 0x42050410 ∷ 0x42060410 ∷ 0x201f0001 ∷ 0x83 ∷ [])) [] 12 false).end ≡ Some (Exit 316)
unfolding example_end zeros_before_one
level-ends = refl
