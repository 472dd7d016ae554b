-- What each family asks for: 27 clauses, in the order of document 01's instruction list.
use Rattle.std.specs.Prelude.{ℕ, ◌%◌, ◌/◌}
use Rattle.alu.specs.declared.BitKind.{BitKind}
use Rattle.isa.specs.declared.Family.{Family}
use Rattle.isa.specs.declared.Family.TheVariants.{Tor1, Rotr1, Rotr2, Rotc, Rotm, Sor, Bor2, Tor2, Shftr, Crcf, Crcr, Prt1, Prt2, Prt3, Svstr, Sonr, Tonr, Shftnr, Bor1, Bonr, Rotnr, Prtnr, Svstnr, Setst, Rstst, Test, Noop}
use Rattle.isa.specs.declared.Named.{Named}
use Rattle.plan.specs.declared.Source.{Source}
use Rattle.plan.specs.declared.Source.TheVariants.{Zero, Ram, Acc}
use Rattle.plan.specs.declared.Destination.{Destination}
use Rattle.plan.specs.declared.Destination.TheVariants.{ToY, ToRam}
use Rattle.plan.specs.declared.Shown.TheVariants.{AtWidth, Whole, Nothing}
use Rattle.plan.specs.declared.Chooser.{Chooser}
use Rattle.plan.specs.declared.Chooser.TheVariants.{Pins, Instruction}
use Rattle.plan.specs.declared.Task.{Task}
use Rattle.plan.specs.declared.Task.TheVariants.{NoOperation, TwoOperand, OneOperand, Bit, Shift, Rotate, Merge, Compare, Prioritize, CrcForward, CrcReverse, SaveStatus, SetStatus, ResetStatus, TestStatus}
use Rattle.plan.specs.declared.Operands.{Operands}
use Rattle.plan.specs.declared.Work.{Work}
use Rattle.plan.specs.declared.Plan.{Plan}
use Rattle.plan.specs.Tables.{Looking, as_printed, two_operands, one_operands, shifts, bor2_bits, bor1_bits, bonr_bits, status_bits, ram_pair_r, ram_pair_s, pair_r, pair_s, sources, prt1_source, mask_source, rotate_u, rotate_r, rotate_mask, shift_source, bonr_source, rotnr_source, ram_pair_to, rotr1_to, sor_to, prt1_to, prt2_to, no_ram_to, back, bit_to, rotnr_to}

-- one operand, or none where it is Zero; two, R and S or a register and ACC; a source and its mask; U, R and the mask
abbrev pub one : Source → Operands
one s = record { first = s; second = Zero; mask = Zero }

abbrev pub two : Source → Source → Operands
two r s = record { first = r; second = s; mask = Zero }

abbrev pub masked : Source → Source → Operands
masked s m = record { first = s; second = Zero; mask = m }

abbrev pub three : Source → Source → Source → Operands
three u r m = record { first = u; second = r; mask = m }

-- Y is known at the width, and the T inputs choose CT
abbrev pub at_width : Task → Operands → Destination → Work
at_width t o d = record { task = t; operands = o; destination = d; shown = AtWidth; chooser = Pins }

-- all of Y is known (document 01, the report: save, set and reset status and prioritize)
abbrev pub whole : Task → Operands → Destination → Work
whole t o d = record { task = t; operands = o; destination = d; shown = Whole; chooser = Pins }

-- nothing of Y is known (document 01, the report: Test and NOOP)
abbrev pub idle : Task → Chooser → Work
idle t c = record { task = t; operands = one Zero; destination = ToY; shown = Nothing; chooser = c }

-- a bit operation on a source
abbrev pub bit_work : BitKind → Source → Work
bit_work k s = at_width (Bit k) (one s) (bit_to k s)

-- the work of each family by its fields, whatever the way in which tables are looked up
module _ (l : Looking) where
  open l use {look}

  abbrev pub work_by : Family → ℕ → ℕ → ℕ → Work
  -- Q0
  work_by Tor1 a b c = at_width (TwoOperand (look two_operands b)) (two (look ram_pair_r a) (look ram_pair_s a)) (look ram_pair_to a)
  work_by Rotr1 a b c = at_width Rotate (one Ram) (look rotr1_to b)
  -- Q1
  work_by Rotr2 a b c = at_width Rotate (one (look rotate_u b)) ToRam
  work_by Rotc a b c = at_width Compare (three (look rotate_u b) (look rotate_r b) (look rotate_mask b)) ToY
  work_by Rotm a b c = at_width Merge (three (look rotate_u b) (look rotate_r b) (look rotate_mask b)) (back (look rotate_r b))
  -- Q2
  work_by Sor a b c = at_width (OneOperand (look one_operands a)) (one (look sources b)) (look sor_to b)
  work_by Bor2 a b c = bit_work (look bor2_bits b) Ram
  work_by Tor2 a b c = at_width (TwoOperand (look two_operands b)) (two (look pair_r a) (look pair_s a)) ToRam
  work_by Shftr a b c = at_width (Shift (look shifts b)) (one (look (shift_source Ram) a)) ToRam
  work_by Crcf a b c = at_width CrcForward (two Ram Acc) ToRam
  work_by Crcr a b c = at_width CrcReverse (two Ram Acc) ToRam
  work_by Prt1 a b c = whole Prioritize (masked (look prt1_source b) Ram) (look prt1_to a)
  work_by Prt2 a b c = whole Prioritize (masked Ram (look mask_source a)) (look prt2_to b)
  work_by Prt3 a b c = whole Prioritize (masked (look sources b) (look mask_source a)) ToRam
  work_by Svstr a b c = whole SaveStatus (one Zero) ToRam
  -- Q3
  work_by Sonr a b c = at_width (OneOperand (look one_operands a)) (one (look sources b)) (look no_ram_to c)
  work_by Tonr a b c = at_width (TwoOperand (look two_operands b)) (two (look pair_r a) (look pair_s a)) (look no_ram_to c)
  work_by Shftnr a b c = at_width (Shift (look shifts b)) (one (look (shift_source Acc) a)) (look no_ram_to c)
  work_by Bor1 a b c = bit_work (look bor1_bits b) Ram
  work_by Bonr a b c = bit_work (look bonr_bits c) (look bonr_source c)
  work_by Rotnr a b c = at_width Rotate (one (look rotnr_source c)) (look rotnr_to c)
  work_by Prtnr a b c = whole Prioritize (masked (look sources b) (look mask_source a)) (look no_ram_to c)
  work_by Svstnr a b c = whole SaveStatus (one Zero) (look no_ram_to c)
  work_by Setst a b c = whole (SetStatus (look status_bits c)) (one Zero) ToY
  work_by Rstst a b c = whole (ResetStatus (look status_bits c)) (one Zero) ToY
  work_by Test a b c = idle TestStatus (Instruction (c / 2))
  work_by Noop a b c = idle NoOperation Pins

-- the work that is meant: tables are looked up as they are printed
unfoldable pub work_of : Family → ℕ → ℕ → ℕ → Work
work_of = work_by as_printed

-- the plan of a named instruction: A is n where there is one, and C the register where there is one. Fields count modulo their range,
-- in which every instruction of the list has them
unfoldable pub plan_of : Named → Plan
plan_of i = record {
  mode = i.mode;
  n = i.a % 16;
  register = i.c % 32;
  work = work_of i.family (i.a % 16) (i.b % 16) (i.c % 32);
}
