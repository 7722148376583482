-- The state of the kernel, and the user's registers while it is entered.
use Rattle.std.specs.Prelude.{ℕ, ◌==◌, ◌||◌, Bool, true, false, if◌then◌else◌, List}
use Rattle.alpha_words.specs.Regs.{reg, put}
use Rattle.alpha_pal.specs.declared.frame.Frame.{Frame}

-- the processor status in user mode
abbrev pub user_status : ℕ
user_status = 8

-- where a frame lies in the kernel stack: its last 48 of 4,096 bytes
abbrev pub frame_at : ℕ
frame_at = 4048

-- whether the mode is user, the last frame, and the user's stack pointer that the entry saved
pub record KernelState : Type 0 where
  pub user : Bool
  pub frame : Frame
  pub user_stack : ℕ

-- six zeros
abbrev pub no_frame : Frame
no_frame = record { ps = 0; pc = 0; gp = 0; r16 = 0; r17 = 0; r18 = 0 }

-- a new kernel, which was never entered
abbrev pub new_kernel : KernelState
new_kernel = record { user = true; frame = no_frame; user_stack = 0 }

-- the user's registers in kernel mode: the live ones, with R16, R17, R18 and R29 from the frame and
-- R30 from the saved pointer
abbrev pub user_regs : KernelState → List ℕ → List ℕ
user_regs k live =
    put (put (put (put (put live 16 k.frame.r16) 17 k.frame.r17) 18 k.frame.r18) 29 k.frame.gp) 30 k.user_stack

-- the frame of an arithmetic trap: the user's status, the trap's PC and the old registers
abbrev pub arith_frame : ℕ → List ℕ → Frame
arith_frame pc regs = record {
  ps = user_status;
  pc = pc;
  gp = reg regs 29;
  r16 = reg regs 16;
  r17 = reg regs 17;
  r18 = reg regs 18;
}

-- the frame of a system call: the user's status, the PC to go on at, the old GP, and zeros
abbrev pub call_frame : ℕ → List ℕ → Frame
call_frame next regs = record { ps = user_status; pc = next; gp = reg regs 29; r16 = 0; r17 = 0; r18 = 0 }

-- the kernel after an entry with a frame
abbrev pub entered : Frame → List ℕ → KernelState
entered frame regs = record { user = false; frame = frame; user_stack = reg regs 30 }

-- the registers after an entry, which gives the kernel a stack pointer and a global pointer
abbrev pub entry_regs : List ℕ → List ℕ
entry_regs regs = put (put regs 29 0) 30 frame_at

-- the registers after an arithmetic trap with a mask: {IOV} in R16, the mask in R17
abbrev pub arith_regs : List ℕ → ℕ → List ℕ
arith_regs regs mask = put (put (entry_regs regs) 16 64) 17 mask

-- the entry saves the user's value of this register, in the frame or apart
abbrev pub is_saved : ℕ → Bool
is_saved r = r == 16 || r == 17 || r == 18 || r == 29 || r == 30

-- the kernel with this value of a user's register, if that register is a saved one
abbrev pub saving : KernelState → ℕ → ℕ → KernelState
saving k r value =
    if r == 16 then record k { frame = record k.frame { r16 = value } } else
    if r == 17 then record k { frame = record k.frame { r17 = value } } else
    if r == 18 then record k { frame = record k.frame { r18 = value } } else
    if r == 29 then record k { frame = record k.frame { gp = value } } else
    if r == 30 then record k { user_stack = value } else
    k
