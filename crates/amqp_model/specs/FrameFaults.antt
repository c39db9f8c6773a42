-- The faults of frames, and which of them a performative's own is.
use Rattle.std.specs.Prelude.{ℕ}
use Rattle.amqp_model.specs.declared.perf_fault.PerfFault.{PerfFault}
use Rattle.amqp_model.specs.declared.perf_fault.PerfFault.TheVariants as perf_fault
use Rattle.amqp_model.specs.declared.frame_fault.FrameFault.{FrameFault}
use Rattle.amqp_model.specs.declared.frame_fault.FrameFault.TheVariants as fault

-- the fault of a frame whose body is at fault; memory refused stays memory refused
abbrev pub of_perf : PerfFault → FrameFault
of_perf perf_fault.Memory = fault.Memory
of_perf e = fault.Perf e

-- the number of a fault
abbrev pub fault_number : FrameFault → ℕ
fault_number fault.TooSmall = 1
fault_number fault.BadOffset = 2
fault_number fault.TooLarge = 3
fault_number fault.BadType = 4
fault_number (fault.Perf e) = 5
fault_number fault.Memory = 6
fault_number fault.Failed = 7
