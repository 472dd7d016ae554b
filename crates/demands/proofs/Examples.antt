-- Every row of the table of examples holds, by computation.
use mathlib.Core.Path.{refl}
use lib.Count.{count_leading_zeros}
use Rattle.alu.specs.Width.{complement, write_back}
use Rattle.alu.specs.Flags.{flagged, with_sign, plain, linked}
use Rattle.alu.specs.Operations.{plus, minus, two_operand, one_operand, moved_up, moved_down, shift_up, shift, rotated, rotate, merge, compare, priority, prioritize, crc_step, crc_forward, crc_reverse, outcome_of}
use Rattle.isa.specs.Words.{decode_of, takes_immediate}
use Rattle.plan.specs.Plans.{work_of, plan_of}
use Rattle.machine.specs.Judging.{judgement_of}
use Rattle.machine.specs.Seeing.{view_of}
use Rattle.machine.specs.Acting.{outcome_for, effect_of}
use Rattle.machine.specs.Settling.{settled_of}
use Rattle.machine.specs.Reporting.{condition_of}
use Rattle.machine.specs.Cycles.{cycle_of}
use Rattle.demands.specs.Examples.{AllHold, examples}

pub examples_hold : AllHold examples
unfolding complement write_back flagged with_sign plain linked plus minus two_operand one_operand moved_up moved_down shift_up shift rotated rotate merge compare priority prioritize crc_step crc_forward crc_reverse outcome_of decode_of takes_immediate work_of plan_of judgement_of view_of outcome_for effect_of settled_of condition_of cycle_of count_leading_zeros
examples_hold = (
  record { decoded = refl; answered = refl; register = refl; acc = refl; flags = tt },
  (
    record { decoded = refl; answered = refl; register = refl; acc = refl; flags = tt },
    (
      record { decoded = refl; answered = refl; register = refl; acc = refl; flags = tt },
      (
        record { decoded = refl; answered = refl; register = refl; acc = refl; flags = (refl, tt) },
        (
          record { decoded = refl; answered = refl; register = refl; acc = refl; flags = tt },
          (
            record { decoded = refl; answered = refl; register = refl; acc = refl; flags = tt },
            (
              record { decoded = refl; answered = refl; register = refl; acc = refl; flags = tt },
              (
                record { decoded = refl; answered = refl; register = refl; acc = refl; flags = tt },
                (
                  record { decoded = refl; answered = refl; register = refl; acc = refl; flags = (refl, (refl, (refl, tt))) },
                  (
                    record { decoded = refl; answered = refl; register = refl; acc = refl; flags = (refl, (refl, (refl, tt))) },
                    (
                      record { decoded = refl; answered = refl; register = refl; acc = refl; flags = (refl, (refl, tt)) },
                      (
                        record { decoded = refl; answered = refl; register = refl; acc = refl; flags = (refl, tt) },
                        (
                          record { decoded = refl; answered = refl; register = refl; acc = refl; flags = (refl, (refl, tt)) },
                          (
                            record { decoded = refl; answered = refl; register = refl; acc = refl; flags = (refl, (refl, tt)) },
                            (
                              record { decoded = refl; answered = refl; register = refl; acc = refl; flags = (refl, (refl, tt)) },
                              (
                                record { decoded = refl; answered = refl; register = refl; acc = refl; flags = (refl, (refl, (refl, (refl, (refl, tt))))) },
                                (
                                  record { decoded = refl; answered = refl; register = refl; acc = refl; flags = tt },
                                  tt,
                                ),
                              ),
                            ),
                          ),
                        ),
                      ),
                    ),
                  ),
                ),
              ),
            ),
          ),
        ),
      ),
    ),
  ),
)
