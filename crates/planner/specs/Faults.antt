-- The numbers of the planner's refusals.
use Rattle.std.specs.Prelude.{ℕ}
use Rattle.planner.specs.declared.fault.WriteFault.{WriteFault}
use Rattle.planner.specs.declared.fault.WriteFault.TheVariants.{TooShort}
use Rattle.planner.specs.declared.fault.PlanFault.{PlanFault}
use Rattle.planner.specs.declared.fault.PlanFault.TheVariants.{TooManyStates, BufferTooShort}

abbrev pub write_fault_number : WriteFault → ℕ
write_fault_number TooShort = 17

abbrev pub plan_fault_number : PlanFault → ℕ
plan_fault_number TooManyStates = 16
plan_fault_number BufferTooShort = 17
