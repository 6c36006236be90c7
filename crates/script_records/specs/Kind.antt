-- The kinds of records by their numbers (document 01, 'The script file').
use Rattle.std.specs.Prelude.{ℕ, List, [], ◌∷◌, ◌++◌, map, replicate, get_or, Option, Some, None, Result, ok_or}
use Rattle.script_records.specs.declared.kind.Kind.{Kind}
use Rattle.script_records.specs.declared.kind.Kind.TheVariants as kind
use Rattle.script_records.specs.declared.kind.UnknownKind.{UnknownKind}

abbrev pub number_of : Kind → ℕ
number_of kind.Declare = 0
number_of kind.Return = 1
number_of kind.Throw = 2
number_of kind.Expr = 3
number_of kind.Block = 4
number_of kind.ForIn = 5
number_of kind.While = 6
number_of kind.If = 7
number_of kind.Break = 8
number_of kind.Continue = 9
number_of kind.Try = 10
number_of kind.WaitForFrame = 11
number_of kind.TellTarget = 12
number_of kind.InlinePcode = 13
number_of kind.With = 14
number_of kind.Switch = 15
number_of kind.Constant = 32
number_of kind.Call = 33
number_of kind.New = 34
number_of kind.DuplicateMovieClip = 35
number_of kind.AsciiToChar = 36
number_of kind.MBAsciiToChar = 37
number_of kind.CallFrame = 38
number_of kind.GetTime = 39
number_of kind.Binary = 40
number_of kind.Unary = 41
number_of kind.Ternary = 42
number_of kind.InitObject = 43
number_of kind.InitArray = 44
number_of kind.Field = 45
number_of kind.TypeOf = 46
number_of kind.Delete = 47
number_of kind.Void = 48
number_of kind.Function = 49
number_of kind.GetVariable = 50
number_of kind.SetVariable = 51
number_of kind.GotoFrame = 52
number_of kind.GetUrl = 53
number_of kind.CastToInteger = 54
number_of kind.CastToNumber = 55
number_of kind.CastToString = 56
number_of kind.CastToObject = 57
number_of kind.StringLength = 58
number_of kind.MBStringLength = 59
number_of kind.CharToAscii = 60
number_of kind.MBCharToAscii = 61
number_of kind.Substring = 62
number_of kind.MBSubstring = 63
number_of kind.NextFrame = 64
number_of kind.PreviousFrame = 65
number_of kind.Play = 66
number_of kind.Stop = 67
number_of kind.StopSounds = 68
number_of kind.StartDrag = 69
number_of kind.EndDrag = 70
number_of kind.GetTargetPath = 71
number_of kind.Trace = 72
number_of kind.RemoveSprite = 73
number_of kind.GetRandomNumber = 74
number_of kind.GetProperty = 75
number_of kind.SetProperty = 76
number_of kind.ToggleQuality = 77
number_of kind.Absent = 96
number_of kind.List = 97
number_of kind.ObjectField = 98
number_of kind.Parameter = 99
number_of kind.Case = 100
number_of kind.Default = 101

abbrev statements : List Kind
statements =
    kind.Declare ∷ kind.Return ∷ kind.Throw ∷ kind.Expr ∷ kind.Block ∷ kind.ForIn ∷ kind.While ∷ kind.If ∷ kind.Break ∷ kind.Continue ∷ kind.Try ∷
    kind.WaitForFrame ∷ kind.TellTarget ∷ kind.InlinePcode ∷ kind.With ∷ kind.Switch ∷ []

abbrev expressions : List Kind
expressions =
    kind.Constant ∷ kind.Call ∷ kind.New ∷ kind.DuplicateMovieClip ∷ kind.AsciiToChar ∷ kind.MBAsciiToChar ∷ kind.CallFrame ∷ kind.GetTime ∷
    kind.Binary ∷ kind.Unary ∷ kind.Ternary ∷ kind.InitObject ∷ kind.InitArray ∷ kind.Field ∷ kind.TypeOf ∷ kind.Delete ∷ kind.Void ∷ kind.Function ∷
    kind.GetVariable ∷ kind.SetVariable ∷ kind.GotoFrame ∷ kind.GetUrl ∷ kind.CastToInteger ∷ kind.CastToNumber ∷ kind.CastToString ∷
    kind.CastToObject ∷ kind.StringLength ∷ kind.MBStringLength ∷ kind.CharToAscii ∷ kind.MBCharToAscii ∷ kind.Substring ∷ kind.MBSubstring ∷
    kind.NextFrame ∷ kind.PreviousFrame ∷ kind.Play ∷ kind.Stop ∷ kind.StopSounds ∷ kind.StartDrag ∷ kind.EndDrag ∷ kind.GetTargetPath ∷ kind.Trace ∷
    kind.RemoveSprite ∷ kind.GetRandomNumber ∷ kind.GetProperty ∷ kind.SetProperty ∷ kind.ToggleQuality ∷ []

abbrev others : List Kind
others = kind.Absent ∷ kind.List ∷ kind.ObjectField ∷ kind.Parameter ∷ kind.Case ∷ kind.Default ∷ []

-- statements from 0, expressions from 32, the others from 96
abbrev pub kinds : List (Option Kind)
kinds = map Some statements ++ (replicate 16 None ++ (map Some expressions ++ (replicate 18 None ++ map Some others)))

unfoldable pub kind_from : ℕ → Result Kind UnknownKind
kind_from n = ok_or (get_or kinds n None) (record { 0 = n })
