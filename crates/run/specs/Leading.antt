-- Any number of cycles in sequence, none of them refused: what goes past the 4,096 of a run (document 02, §11).
use Rattle.std.specs.Prelude.{◌≡◌, List, [], ◌∷◌, length}
use Rattle.choice.specs.Tells.{accepted}
use Rattle.machine.specs.declared.Machine.{Machine}
use Rattle.machine.specs.declared.Words.{Words}
use Rattle.machine.specs.declared.Report.{Report}
use Rattle.machine.specs.Cycles.{cycle_of}
use Rattle.run.specs.Courses.{done, Course, machine_after}

-- a cycle is accepted: its answer is a report
abbrev pub Accepts : Machine → Words → Type 0
Accepts m c = (r : Report) × ((cycle_of m c).answer ≡ accepted r)

-- each cycle is accepted from the machine that the one before it left, and the last leaves n
abbrev pub Leads : Machine → List Words → Machine → Type 0
Leads m [] n = m ≡ n
Leads m (c ∷ cycles) n = Accepts m c × Leads (cycle_of m c).machine cycles n

-- a course over cycles from m: done, with a step for each, and n after them
pub record DoneAt (m : Machine) (cycles : List Words) (n : Machine) (c : Course) : Type 0 where
  pub close : c.close ≡ accepted done
  pub steps : length c.steps ≡ length cycles
  pub machine : machine_after m c.steps ≡ n
