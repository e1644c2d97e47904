use mathlib.Core.Path.{refl}
use borrow.Author.Rules.{rules}
use Rattle.printing.proofs.Laws.{end_appended, fuel_appended, output_appended}
use Rattle.printing.proofs.append_stop.Goals as goal

pub returns-in-Done : goal.returns-in-Done
returns-in-Done c = record { appends = end_appended c.in-Done.is refl c.append_number.ensures.appends; near = search rules }

pub returns-in-NoRule : goal.returns-in-NoRule
returns-in-NoRule c = record { appends = end_appended c.in-NoRule.is refl c.append_number-in-NoRule.ensures.appends; near = search rules }

pub returns-in-DivisorZero : goal.returns-in-DivisorZero
returns-in-DivisorZero c = record { appends = end_appended c.in-DivisorZero.is refl c.append_number-in-DivisorZero.ensures.appends; near = search rules }

pub returns-in-IntegerRange : goal.returns-in-IntegerRange
returns-in-IntegerRange c = record { appends = end_appended c.in-IntegerRange.is refl c.append_number-in-IntegerRange.ensures.appends; near = search rules }

pub returns-in-TextLength : goal.returns-in-TextLength
returns-in-TextLength c = record { appends = end_appended c.in-TextLength.is refl c.append_number-in-TextLength.ensures.appends; near = search rules }

pub returns-in-SlotLimit : goal.returns-in-SlotLimit
returns-in-SlotLimit c = record { appends = end_appended c.in-SlotLimit.is refl c.append_number-in-SlotLimit.ensures.appends; near = search rules }

pub returns-in-FramesFull : goal.returns-in-FramesFull
returns-in-FramesFull c = record { appends = end_appended c.in-FramesFull.is refl c.append_number-in-FramesFull.ensures.appends; near = search rules }

pub returns-in-TextsFull : goal.returns-in-TextsFull
returns-in-TextsFull c = record { appends = end_appended c.in-TextsFull.is refl c.append_number-in-TextsFull.ensures.appends; near = search rules }

pub returns-in-Fuel : goal.returns-in-Fuel
returns-in-Fuel c = record { appends = search fuel_appended; near = search rules }

pub returns-in-Output : goal.returns-in-Output
returns-in-Output c = record { appends = search output_appended; near = search rules }
