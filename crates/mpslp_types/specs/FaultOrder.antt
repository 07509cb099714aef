-- The order of the kinds of errors, which decides which of several is reported.
use Rattle.std.specs.Prelude.{ℕ, nat_lt, if◌then◌else◌, List, [], ◌∷◌, Option, Some, None}
use Rattle.mpslp_types.specs.declared.faults.FaultKind.{FaultKind}
use Rattle.mpslp_types.specs.declared.faults.FaultKind.TheVariants.{LineTooLong, BadByte, Quadratic, Sos, Indicator, SemiContinuous, UnknownSection, SectionOrder, SectionRepeated, FieldCount, BadToken, BadType, BadMarker, NameLength, NameByte, NameMarker, NameLikeExponent, BadNumber, LongNumber, TooManyDigits, ExponentRange, SecondSet, UnknownRow, UnknownColumn, ColumnSplit, DuplicateRow, DuplicateEntry, DuplicateRhs, DuplicateRange, DuplicateBound, RangeOnFree, ConstantInRow, MixedSenses, InfiniteValue, MissingEnd, NoColumns, InfiniteLimit, RangeInexact, LimitTooLarge, LimitsCrossed, NegativeUpper, BoundsCrossed, BinaryBounds, SemiBounds}

-- the rank of a kind: its number in the order
abbrev pub kind_rank : FaultKind → ℕ
kind_rank LineTooLong = 1
kind_rank BadByte = 2
kind_rank Quadratic = 3
kind_rank Sos = 4
kind_rank Indicator = 5
kind_rank SemiContinuous = 6
kind_rank UnknownSection = 7
kind_rank SectionOrder = 8
kind_rank SectionRepeated = 9
kind_rank FieldCount = 10
kind_rank BadToken = 11
kind_rank BadType = 12
kind_rank BadMarker = 13
kind_rank NameLength = 14
kind_rank NameByte = 15
kind_rank NameMarker = 16
kind_rank NameLikeExponent = 17
kind_rank BadNumber = 18
kind_rank LongNumber = 19
kind_rank TooManyDigits = 20
kind_rank ExponentRange = 21
kind_rank SecondSet = 22
kind_rank UnknownRow = 23
kind_rank UnknownColumn = 24
kind_rank ColumnSplit = 25
kind_rank DuplicateRow = 26
kind_rank DuplicateEntry = 27
kind_rank DuplicateRhs = 28
kind_rank DuplicateRange = 29
kind_rank DuplicateBound = 30
kind_rank RangeOnFree = 31
kind_rank ConstantInRow = 32
kind_rank MixedSenses = 33
kind_rank InfiniteValue = 34
kind_rank MissingEnd = 35
kind_rank NoColumns = 36
kind_rank InfiniteLimit = 37
kind_rank RangeInexact = 38
kind_rank LimitTooLarge = 39
kind_rank LimitsCrossed = 40
kind_rank NegativeUpper = 41
kind_rank BoundsCrossed = 42
kind_rank BinaryBounds = 43
kind_rank SemiBounds = 44

-- the kind that comes first in that order
abbrev pub least_kind : List FaultKind → Option FaultKind
least_kind [] = None
least_kind (kind ∷ kinds) = Some (lesser (least_kind kinds))
  where
    lesser : Option FaultKind → FaultKind
    lesser None = kind
    lesser (Some other) = if nat_lt (kind_rank other) (kind_rank kind) then other else kind
