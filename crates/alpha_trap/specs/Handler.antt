-- What the handler of a late trap leaves.
use Rattle.std.specs.Prelude.{◌+◌, ◌*◌, ◌%◌, ◌^◌, ℕ, true, if◌then◌else◌, Option, List}
use Rattle.std.specs.Option.{option_map}
use Rattle.alpha_words.specs.declared.Completion.{Completion}
use Rattle.alpha_words.specs.Regs.{reg}
use Rattle.alpha_table.specs.Code.{class_at}
use Rattle.alpha_values.specs.TrapOp.{stops}
use Rattle.alpha_pal.specs.Kernel.{KernelState, user_regs, arith_frame}
use Rattle.alpha_image.specs.Parts.{Parts}
use Rattle.alpha_trap.specs.declared.handler.Lost.{Lost}
use Rattle.alpha_trap.specs.Scan.{scan}
use Rattle.alpha_trap.specs.Completed.{completed_regs}

-- ---- the trap

-- the mask that an entry left in R17: bit n, n from 0 to 30, stands for Rn, and the bits above mean nothing
abbrev pub mask_in : List ℕ → ℕ
mask_in live = reg live 17 % 2 ^ 31

-- the trap for which the kernel was entered, by the frame and the live registers
abbrev pub trap_in : KernelState → List ℕ → Lost
trap_in kernel live = record { trap_pc = kernel.frame.pc; mask = mask_in live }

-- the place of the word that made a trap
abbrev pub place_of_trap : Parts → Lost → Option ℕ
place_of_trap image trap = scan image trap.trap_pc trap.mask

-- ---- its end

-- the PC to go on at, and the user's registers
pub record Handled : Type 0 where
  pub pc : ℕ
  pub regs : List ℕ

abbrev pub going_on : ℕ → List ℕ → Handled
going_on pc regs = record { pc = pc; regs = regs }

-- A trap of the word at a place: the word is completed and the program goes on behind it, or the program stops at the
-- word and nothing has changed.
abbrev pub handled_at : Parts → Completion → List ℕ → ℕ → Handled
handled_at image completion regs at =
    if stops completion then going_on (image.code_base + 4 * at) regs
    else going_on (image.code_base + 4 * at + 4) (completed_regs completion (class_at image.words at) regs)

-- what a report at an address with a mask leaves, by the user's registers; none where the trap is lost
abbrev pub reported : Parts → Completion → ℕ → ℕ → List ℕ → Option Handled
reported image completion pc mask regs = option_map (handled_at image completion regs) (scan image pc mask)

-- what the handler leaves, by the kernel and the live registers
abbrev pub handled : Parts → Completion → KernelState → List ℕ → Option Handled
handled image completion kernel live = reported image completion kernel.frame.pc (mask_in live) (user_regs kernel live)

-- the kernel after a return: in user mode, its frame that of a trap at this PC with these registers
abbrev pub kernel_after : KernelState → Handled → KernelState
kernel_after old h = record {
  user = true;
  frame = record (arith_frame h.pc h.regs) { ps = old.frame.ps };
  user_stack = reg h.regs 30;
}
