-- Rule 2.4: the number of each fault.
use Rattle.std.specs.Prelude.{ℕ}
use Rattle.outline.specs.declared.Fault.{Fault}

abbrev pub number : Fault → ℕ
number Fault.OddLength = 1
number Fault.TooFew = 2
number Fault.TooMany = 3
number Fault.OutOfRange = 4
number Fault.Repeated = 5
number Fault.NotLeft = 6
number Fault.PointOutOfRange = 7
number Fault.NoSuchCorner = 8
number Fault.WrongLength = 9
number Fault.PartialRecord = 10
number Fault.ChainTooLong = 11
number Fault.NoSuchRecord = 12
