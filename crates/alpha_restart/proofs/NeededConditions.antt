-- For each condition from C1 to C7 an image that it alone refuses, and that can't be restarted: its run by some words
-- shows another end than the sequential run, or loses a trap. The numbers are words of code; what they say stands above
-- them.
use Rattle.std.specs.Int.{int_wrap}
use Rattle.std.proofs.Common.{◌≡◌, ◌≢◌, ◌<◌, ◌≤◌, ◌^◌, ℕ, zero, suc, true, false, List, [], ◌∷◌, length, get_or, ltb}
use Rattle.std.proofs.Common.{Option, None, Some, refl, sym, ap, ◌∙◌, arith}
use Rattle.std.specs.List.{list_all, All}
use Rattle.std.proofs.lemmas.Bool.{ltb-true, and_parts}
use Rattle.std.proofs.lemmas.List.Elements.{All-nil, All-cons}
use Rattle.alpha_words.specs.declared.Level.TheVariants as levels
use Rattle.alpha_words.specs.declared.Completion.{Completion}
use Rattle.alpha_words.specs.declared.Completion.TheVariants.{Wrap, Saturate, Stop}
use Rattle.alpha_words.specs.Digits.{digits, number}
use Rattle.alpha_words.specs.Regs.{reg, put}
use Rattle.alpha_table.specs.Code.{class_at}
use Rattle.alpha_table.specs.Decoded.{decoded, memory_form, branch_form, jump_form, operate_form, misc_form, fetch_form}
use Rattle.alpha_table.specs.Decoded.{pal_form, source_of}
use Rattle.alpha_table.specs.Words.{class_in}
use Rattle.alpha_values.specs.Bits.{pairwise}
use Rattle.alpha_values.specs.Cond.{is_taken}
use Rattle.alpha_values.specs.Numbers.{register_of}
use Rattle.alpha_values.specs.Address.{address_of, high_address_of, access_address}
use Rattle.alpha_values.specs.Op.{result_of}
use Rattle.alpha_values.specs.TrapOp.{overflow_of, completed_of}
use Rattle.alpha_mem.specs.Fault.{fault_of, each_within}
use Rattle.alpha_mem.specs.Memory.{bytes_at, write_bytes}
use Rattle.alpha_pal.specs.Call.{call}
use Rattle.alpha_image.specs.declared.version.Version.TheVariants as versions
use Rattle.alpha_image.specs.Layout.{longword}
use Rattle.alpha_image.specs.FieldTests.{is_base, data_bases_fit, code_words_fit, data_bytes_fit, zeroed_bytes_fit}
use Rattle.alpha_image.specs.FieldTests.{stack_bytes_fit, entry_fits, are_apart, regions_fit, level_fits, segments_fit}
use Rattle.alpha_image.specs.FieldTests.{least_bad_field}
use Rattle.alpha_image.specs.ImageFault.{bad_place, word_fault}
use Rattle.alpha_image.specs.Parts.{Parts, IsImage, IsByte, numbers, place_of}
use Rattle.alpha_image.proofs.FieldRules.{FieldsFit-least}
use Rattle.alpha_image.proofs.CodeWords.{All-word_fault}
use Rattle.alpha_seq.specs.declared.end.End.{End}
use Rattle.alpha_seq.specs.declared.end.End.TheVariants.{Exit, Overflow}
use Rattle.alpha_seq.specs.State.{Program, Event, Went, Ends, Stepped}
use Rattle.alpha_seq.specs.Start.{start_memory, start_regs, start}
use Rattle.alpha_seq.specs.Run.{begins, next, sequential}
use Rattle.alpha_shadow.specs.declared.broken.Condition.{Condition}
use Rattle.alpha_shadow.specs.declared.broken.Condition.TheVariants.{ZeroDestination, SourceLost, SameDestination}
use Rattle.alpha_shadow.specs.declared.broken.Condition.TheVariants.{WildBase, LoadThenStore, Locked, Turn, Open, Long}
use Rattle.alpha_shadow.specs.Least.{condition_number}
use Rattle.alpha_trap.specs.Scan.{fits, greatest_below}
use Rattle.alpha_imprecise.specs.StepResult.{ImpreciseEvent, Precisely, Triggered, StepResult}
use Rattle.alpha_restart.specs.Table.{IsChoice}
use Rattle.alpha_imprecise.specs.Run.{choice_of, seen, imprecise_start, next_step_result}
use Rattle.alpha_imprecise.specs.ChosenRun.{LostTrap, imprecise}
use Rattle.alpha_imprecise.specs.Restart.{IsRestartable}
use Rattle.alpha_restart.specs.Needed.{Needs, StopsApart}
use Rattle.alpha_restart.proofs.BrokenTests.{nothing_broken, nothing_broken-sound}
use Rattle.alpha_imprecise.proofs.ShownRuns.{runs_alike}

-- ---- images

-- words at 65,536 with a stack of 16 bytes and no segment
abbrev image_of : List ℕ → Parts
image_of words = record {
  version = versions.Two;
  level = levels.One;
  code_base = 65536;
  entry = 65536;
  stack = 16;
  segments = [];
  words = words;
  bytes = [];
}

-- whether that is a good image
unfoldable bad_field : List ℕ → Option ℕ
unfolding least_bad_field is_base data_bases_fit code_words_fit data_bytes_fit zeroed_bytes_fit stack_bytes_fit
    entry_fits are_apart regions_fit level_fits segments_fit
bad_field words = least_bad_field (numbers (image_of words))

below_all : (words : List ℕ) → list_all (λ w. ltb w (2 ^ 32)) words ≡ true → (k : ℕ) → k < length words
    → get_or words k 0 < 2 ^ 32
below_all [] e k low = absurd (omega arith)
below_all (w ∷ words) e zero low =
    ltb-true w (2 ^ 32) (and_parts (ltb w (2 ^ 32)) (list_all (λ v. ltb v (2 ^ 32)) words) e).0
below_all (w ∷ words) e (suc k) low =
    below_all words (and_parts (ltb w (2 ^ 32)) (list_all (λ v. ltb v (2 ^ 32)) words) e).1 k (omega arith)

good_image : (words : List ℕ) → bad_field words ≡ None → list_all (λ w. ltb w (2 ^ 32)) words ≡ true
    → word_fault levels.One words ≡ None → IsImage (image_of words)
unfolding bad_field
good_image words fields small fault = record {
  version = tt;
  fields = FieldsFit-least (numbers (image_of words)) fields;
  words = All-word_fault levels.One words (below_all words small) fault;
  bytes = All-nil IsByte;
  filled = refl;
}

-- ---- runs

-- how the sequential run ends, over an empty input
unfoldable sequential_end : Completion → List ℕ → Option End
unfolding int_wrap digits number reg put class_at class_in pairwise is_taken register_of address_of high_address_of
    access_address result_of overflow_of completed_of fault_of each_within bytes_at write_bytes call longword place_of
    start_memory start_regs
sequential_end completion code =
    (sequential (record { image = image_of code; completion = completion }) [] 100 false).end

-- how a run by words ends, and the trap that it loses
unfoldable imprecise_end : Completion → List ℕ → List ℕ → Option End
unfolding int_wrap digits number reg put class_at class_in pairwise is_taken register_of address_of high_address_of
    access_address result_of overflow_of completed_of fault_of each_within bytes_at write_bytes call longword place_of
    start_memory start_regs fits greatest_below
imprecise_end completion code words =
    (imprecise (record { image = image_of code; completion = completion }) [] words 100 false).end

unfoldable lost_trap_of : Completion → List ℕ → List ℕ → Option LostTrap
unfolding imprecise_end
lost_trap_of completion code words =
    (imprecise (record { image = image_of code; completion = completion }) [] words 100 false).lost

same_end : (completion : Completion) (code words : List ℕ) → IsRestartable (image_of code)
    → imprecise_end completion code words ≡ sequential_end completion code
unfolding imprecise_end sequential_end
same_end completion code words h = (runs_alike (image_of code) h completion [] words 100 false).end

none_lost : (completion : Completion) (code words : List ℕ) → IsRestartable (image_of code)
    → lost_trap_of completion code words ≡ None
unfolding lost_trap_of
none_lost completion code words h = (runs_alike (image_of code) h completion [] words 100 false).lost

-- where an overflow stopped a program
abbrev stopped_at : End → ℕ
stopped_at (Overflow at) = at
stopped_at _ = 0

-- ---- what shows that a condition is needed

by_end : (c : Condition) (completion : Completion) (code words : List ℕ) (a b : End) → IsImage (image_of code)
    → ((d : Condition) → d ≢ c → nothing_broken code d ≡ true)
    → imprecise_end completion code words ≡ Some a → sequential_end completion code ≡ Some b → a ≢ b → Needs c
by_end c completion code words a b good alone forced plain apart = record {
  image = image_of code;
  good = good;
  accepted = λ t i d n h. nothing_broken-sound code d (alone d n) t i h;
  fails = λ h. let e : Some a ≡ Some b = sym forced ∙ (same_end completion code words h ∙ plain) in apart cc;
}

by_loss : (c : Condition) (completion : Completion) (code words : List ℕ) (t : LostTrap) → IsImage (image_of code)
    → ((d : Condition) → d ≢ c → nothing_broken code d ≡ true)
    → lost_trap_of completion code words ≡ Some t → Needs c
by_loss c completion code words t good alone forced = record {
  image = image_of code;
  good = good;
  accepted = λ at i d n h. nothing_broken-sound code d (alone d n) at i h;
  fails = λ h. let e : Some t ≡ None = sym forced ∙ none_lost completion code words h in cc;
}

-- ---- code

-- `lda $1,-1($31); srl $1,1,$1; bis $31,1,$2` in front: then $1 is 2 ^ 63 - 1 and $2 is 1
abbrev behind_two : List ℕ → List ℕ
behind_two code = 0x203fffff ∷ 0x48203681 ∷ 0x47e03402 ∷ code

-- `lda $0,1($31); callsys`
abbrev exit_words : List ℕ
exit_words = 0x201f0001 ∷ 0x83 ∷ []

-- C1: `addq/v $1,$2,$31; trapb` and the exit: the mask is empty
abbrev zero_destination : List ℕ
zero_destination = behind_two (0x40220c1f ∷ 0x63ff0000 ∷ exit_words)

zero_destination-good : IsImage (image_of zero_destination)
unfolding bad_field word_fault bad_place decoded memory_form branch_form jump_form operate_form misc_form fetch_form
    pal_form source_of
zero_destination-good = good_image zero_destination refl refl refl

zero_destination-alone : (c : Condition) → c ≢ ZeroDestination → nothing_broken zero_destination c ≡ true
unfolding class_at class_in
zero_destination-alone ZeroDestination n = absurd (n refl)
zero_destination-alone _ n = refl

needs_zero_destination : Needs ZeroDestination
unfolding lost_trap_of
needs_zero_destination =
    by_loss ZeroDestination Wrap zero_destination (5 ∷ [])
    (record { pc = 65552; mask = 0 }) zero_destination-good zero_destination-alone refl

-- C2: `addq/v $1,$2,$1; trapb; bis $1,$1,$16` and the exit: the completed value is that of a spoilt source
abbrev source_lost : List ℕ
source_lost = behind_two (0x40220c01 ∷ 0x63ff0000 ∷ 0x44210410 ∷ exit_words)

source_lost-good : IsImage (image_of source_lost)
unfolding bad_field word_fault bad_place decoded memory_form branch_form jump_form operate_form misc_form fetch_form
    pal_form source_of
source_lost-good = good_image source_lost refl refl refl

source_lost-alone : (c : Condition) → c ≢ SourceLost → nothing_broken source_lost c ≡ true
unfolding class_at class_in
source_lost-alone SourceLost n = absurd (n refl)
source_lost-alone _ n = refl

needs_source_lost : Needs SourceLost
unfolding imprecise_end sequential_end
needs_source_lost =
    by_end SourceLost Saturate source_lost (5 ∷ []) (Exit 6)
    (Exit 9223372036854775807) source_lost-good source_lost-alone refl refl (λ e. cc)

-- C3: `addq/v $1,$2,$3; addq/v $2,$2,$3; trapb; bis $3,$3,$16` and the exit: the scan finds the later one
abbrev same_destination : List ℕ
same_destination = behind_two (0x40220c03 ∷ 0x40420c03 ∷ 0x63ff0000 ∷ 0x44630410 ∷ exit_words)

same_destination-good : IsImage (image_of same_destination)
unfolding bad_field word_fault bad_place decoded memory_form branch_form jump_form operate_form misc_form fetch_form
    pal_form source_of
same_destination-good = good_image same_destination refl refl refl

same_destination-alone : (c : Condition) → c ≢ SameDestination → nothing_broken same_destination c ≡ true
unfolding class_at class_in
same_destination-alone SameDestination n = absurd (n refl)
same_destination-alone _ n = refl

needs_same_destination : Needs SameDestination
unfolding imprecise_end sequential_end
needs_same_destination =
    by_end SameDestination Stop same_destination (0 ∷ 1 ∷ 9 ∷ []) (Overflow 65552) (Overflow 65548)
    same_destination-good same_destination-alone refl refl (λ e. let f = ap stopped_at e in omega arith)

-- C4: `ldah $1,-32768($31); subl/v $1,$30,$3; stq $27,-16($3); trapb; ldq $16,-8($30)` and the exit: the store goes
-- elsewhere while the trap waits
abbrev wild_base : List ℕ
wild_base = 0x243f8000 ∷ 0x403e0923 ∷ 0xb763fff0 ∷ 0x63ff0000 ∷ 0xa61efff8 ∷ exit_words

wild_base-good : IsImage (image_of wild_base)
unfolding bad_field word_fault bad_place decoded memory_form branch_form jump_form operate_form misc_form fetch_form
    pal_form source_of
wild_base-good = good_image wild_base refl refl refl

wild_base-alone : (c : Condition) → c ≢ WildBase → nothing_broken wild_base c ≡ true
unfolding class_at class_in
wild_base-alone WildBase n = absurd (n refl)
wild_base-alone _ n = refl

needs_WildBase : Needs WildBase
unfolding imprecise_end sequential_end
needs_WildBase =
    by_end WildBase Wrap wild_base (1073741832 ∷ 1 ∷ 7 ∷ []) (Exit 7) (Exit 0) wild_base-good wild_base-alone refl refl
    (λ e. cc)

-- C5: `addq/v $1,$2,$3; ldq $4,-8($30); stq $2,-8($30); trapb; bis $4,$4,$16` and the exit: the load is made again
-- behind the store
abbrev load_then_store : List ℕ
load_then_store = behind_two (0x40220c03 ∷ 0xa49efff8 ∷ 0xb45efff8 ∷ 0x63ff0000 ∷ 0x44840410 ∷ exit_words)

load_then_store-good : IsImage (image_of load_then_store)
unfolding bad_field word_fault bad_place decoded memory_form branch_form jump_form operate_form misc_form fetch_form
    pal_form source_of
load_then_store-good = good_image load_then_store refl refl refl

load_then_store-alone : (c : Condition) → c ≢ LoadThenStore → nothing_broken load_then_store c ≡ true
unfolding class_at class_in
load_then_store-alone LoadThenStore n = absurd (n refl)
load_then_store-alone _ n = refl

needs_load_then_store : Needs LoadThenStore
unfolding imprecise_end sequential_end
needs_load_then_store =
    by_end LoadThenStore Wrap load_then_store (0 ∷ 1 ∷ 0 ∷ 1 ∷ 7 ∷ []) (Exit 7)
    (Exit 0) load_then_store-good load_then_store-alone refl refl (λ e. cc)

-- C6: `ldq_l $4,-8($30); addq/v $1,$2,$3; stq_c $31,-8($30); trapb; ldq $16,-8($30)` and the exit: the store succeeds
-- with other bytes, and not again
abbrev locked_words : List ℕ
locked_words = behind_two (0xac9efff8 ∷ 0x40220c03 ∷ 0xbffefff8 ∷ 0x63ff0000 ∷ 0xa61efff8 ∷ exit_words)

locked_words-good : IsImage (image_of locked_words)
unfolding bad_field word_fault bad_place decoded memory_form branch_form jump_form operate_form misc_form fetch_form
    pal_form source_of
locked_words-good = good_image locked_words refl refl refl

locked_words-alone : (c : Condition) → c ≢ Locked → nothing_broken locked_words c ≡ true
unfolding class_at class_in
locked_words-alone Locked n = absurd (n refl)
locked_words-alone _ n = refl

needs_locked : Needs Locked
unfolding imprecise_end sequential_end
needs_locked =
    by_end Locked Wrap locked_words (0 ∷ 1 ∷ 7 ∷ []) (Exit 7) (Exit 0) locked_words-good locked_words-alone refl refl
    (λ e. cc)

-- C7: `addq/v $1,$2,$3; br $31,.+4; trapb`: the scan stops at the branch
abbrev turn_words : List ℕ
turn_words = behind_two (0x40220c03 ∷ 0xc3e00000 ∷ 0x63ff0000 ∷ [])

turn_words-good : IsImage (image_of turn_words)
unfolding bad_field word_fault bad_place decoded memory_form branch_form jump_form operate_form misc_form fetch_form
    pal_form source_of
turn_words-good = good_image turn_words refl refl refl

turn_words-alone : (c : Condition) → c ≢ Turn → nothing_broken turn_words c ≡ true
unfolding class_at class_in
turn_words-alone Turn n = absurd (n refl)
turn_words-alone _ n = refl

needs_turn : Needs Turn
unfolding lost_trap_of
needs_turn =
    by_loss Turn Wrap turn_words (0 ∷ 1 ∷ 0 ∷ [])
    (record { pc = 65556; mask = 8 }) turn_words-good turn_words-alone refl

-- C8 and C9 aren't needed
pub condition-needed : (c : Condition) → condition_number c ≤ 7 → Needs c
condition-needed ZeroDestination low = needs_zero_destination
condition-needed SourceLost low = needs_source_lost
condition-needed SameDestination low = needs_same_destination
condition-needed WildBase low = needs_WildBase
condition-needed LoadThenStore low = needs_load_then_store
condition-needed Locked low = needs_locked
condition-needed Turn low = needs_turn
condition-needed Open low = absurd (omega arith)
condition-needed Long low = absurd (omega arith)

-- ---- a stop

-- `addq/v $1,$2,$3; trapb` and the exit
abbrev stopping_words : List ℕ
stopping_words = behind_two (0x40220c03 ∷ 0x63ff0000 ∷ exit_words)

stopping_words-good : IsImage (image_of stopping_words)
unfolding bad_field word_fault bad_place decoded memory_form branch_form jump_form operate_form misc_form fetch_form
    pal_form source_of
stopping_words-good = good_image stopping_words refl refl refl

stopping_words-nothing_broken : (c : Condition) → nothing_broken stopping_words c ≡ true
unfolding class_at class_in
stopping_words-nothing_broken ZeroDestination = refl
stopping_words-nothing_broken _ = refl

-- three words, the trigger with another value in $3, and the report
abbrev late_stop : List ImpreciseEvent
late_stop = Precisely Went ∷ Precisely Went ∷ Precisely Went ∷ Triggered 5 ∷ Precisely (Ends (Overflow 65548)) ∷ []

more_small : (h : ImpreciseEvent) (rest : List ImpreciseEvent) → IsChoice (choice_of h)
    → All (λ x. IsChoice (choice_of x)) rest → All (λ x. IsChoice (choice_of x)) (h ∷ rest)
more_small h rest low small = All-cons (λ x. IsChoice (choice_of x)) h rest low small

precise_small : (event : Event) → IsChoice (choice_of (Precisely event))
precise_small event = record { value = omega arith; bytes = omega arith }

late_stop-small : All (λ h. IsChoice (choice_of h)) late_stop
late_stop-small =
    more_small (Precisely Went) (Precisely Went ∷ Precisely Went ∷ Triggered 5 ∷ Precisely (Ends (Overflow 65548)) ∷ [])
    (precise_small Went)
    (more_small (Precisely Went) (Precisely Went ∷ Triggered 5 ∷ Precisely (Ends (Overflow 65548)) ∷ [])
    (precise_small Went)
    (more_small (Precisely Went) (Triggered 5 ∷ Precisely (Ends (Overflow 65548)) ∷ []) (precise_small Went)
    (more_small (Triggered 5) (Precisely (Ends (Overflow 65548)) ∷ [])
    (record { value = omega arith; bytes = omega arith })
    (more_small (Precisely (Ends (Overflow 65548))) [] (precise_small (Ends (Overflow 65548)))
    (All-nil (λ h. IsChoice (choice_of h)))))))

abbrev stopping_program : Program
stopping_program = record { image = image_of stopping_words; completion = Stop }

-- where steps that went so lead
abbrev imprecise_walk : StepResult → List ImpreciseEvent → StepResult
imprecise_walk a [] = a
imprecise_walk a (h ∷ hs) = imprecise_walk (next_step_result stopping_program a h) hs

abbrev state_behind : Stepped → List Event → Stepped
state_behind a [] = a
state_behind a (event ∷ events) = state_behind (next stopping_program a event) events

unfoldable stopped_moment : StepResult
unfolding int_wrap digits number reg put class_at class_in pairwise is_taken register_of address_of high_address_of
    access_address result_of overflow_of completed_of fault_of each_within bytes_at write_bytes call longword place_of
    start_memory start_regs fits greatest_below
stopped_moment = imprecise_walk (imprecise_start (start stopping_program)) late_stop

unfoldable stopped_state : Stepped
unfolding int_wrap digits number reg put class_at class_in pairwise is_taken register_of address_of high_address_of
    access_address result_of overflow_of completed_of fault_of each_within bytes_at write_bytes call longword place_of
    start_memory start_regs
stopped_state = state_behind (begins (start stopping_program)) (seen late_stop)

pub stops_apart : StopsApart
unfolding stopped_moment stopped_state
stops_apart = record {
  image = image_of stopping_words;
  good = stopping_words-good;
  accepted = λ t i c h. nothing_broken-sound stopping_words c (stopping_words-nothing_broken c) t i h;
  steps = late_stop;
  small = late_stop-small;
  w = stopped_moment;
  runs = (refl, refl, (refl, refl, (refl, refl, (refl, refl, (refl, refl, refl)))));
  at = 65548;
  stopped = refl;
  last = stopped_state;
  follows = (refl, refl, (refl, refl, (refl, refl, (refl, refl, refl))));
  register = 3;
  apart = λ e. let f : 5 ≡ 0 = e in omega arith;
}
