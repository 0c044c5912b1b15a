-- Statement: how the report lines say why a piece of a stream is not counted, or a line of openings
-- is refused.
use Rattle.std.specs.Prelude.{ℕ, List, ◌++◌, codes}
use Rattle.std.specs.Fmt.{decimal}
use Rattle.explorer_model.specs.declared.fault.TagName.{TagName}
use Rattle.explorer_model.specs.declared.fault.TagName.TheVariants as tag
use Rattle.explorer_model.specs.declared.fault.TagFault.{TagFault}
use Rattle.explorer_model.specs.declared.fault.TagFault.TheVariants as tags
use Rattle.explorer_model.specs.declared.fault.GameFault.{GameFault}
use Rattle.explorer_model.specs.declared.fault.GameFault.TheVariants as game
use Rattle.explorer_model.specs.declared.fault.Why.{Why}
use Rattle.explorer_model.specs.declared.fault.Why.TheVariants as why
use Rattle.explorer_model.specs.declared.opening.BookCause.{BookCause}
use Rattle.explorer_model.specs.declared.opening.BookCause.TheVariants as cause

-- a tag's name as PGN spells it
abbrev pub tag_text : TagName → List ℕ
tag_text tag.Event = codes "Event"
tag_text tag.Site = codes "Site"
tag_text tag.White = codes "White"
tag_text tag.Black = codes "Black"
tag_text tag.Result = codes "Result"
tag_text tag.WhiteElo = codes "WhiteElo"
tag_text tag.BlackElo = codes "BlackElo"
tag_text tag.TimeControl = codes "TimeControl"
tag_text tag.UtcDate = codes "UTCDate"
tag_text tag.Date = codes "Date"

abbrev pub tag_fault_text : TagFault → List ℕ
tag_fault_text (tags.Missing name) = codes "Missing " ++ tag_text name
tag_fault_text (tags.Bad name) = codes "Bad " ++ tag_text name
tag_fault_text tags.NotStandard = codes "NotStandard"
tag_fault_text tags.SetUp = codes "SetUp"
tag_fault_text tags.UnknownResult = codes "UnknownResult"

-- a word and the place of a move: its ply, and the offset of its token in the text
abbrev pub at_ply : List ℕ → ℕ → ℕ → List ℕ
at_ply word ply place = word ++ decimal ply ++ codes " " ++ decimal place

abbrev pub game_fault_text : GameFault → List ℕ
game_fault_text (game.Lex place) = codes "Lex " ++ decimal place
game_fault_text (game.Tag fault) = tag_fault_text fault
game_fault_text (game.BadSetUp field) = codes "BadSetUp " ++ decimal field
game_fault_text game.NoTermination = codes "NoTermination"
game_fault_text game.ResultDiffers = codes "ResultDiffers"
game_fault_text game.TooManyPlies = codes "TooManyPlies"
game_fault_text (game.NotSan ply place) = at_ply (codes "NotSan ") ply place
game_fault_text (game.Illegal ply place) = at_ply (codes "Illegal ") ply place
game_fault_text (game.Ambiguous ply place) = at_ply (codes "Ambiguous ") ply place

abbrev pub why_text : Why → List ℕ
why_text why.Preamble = codes "Preamble"
why_text (why.TooLong length) = codes "TooLong " ++ decimal length
why_text (why.Game fault) = game_fault_text fault
why_text (why.Twice first) = codes "Twice " ++ decimal first
why_text (why.Repeated number) = codes "Repeated " ++ decimal number

abbrev pub book_cause_text : BookCause → List ℕ
book_cause_text cause.NotThree = codes "NotThree"
book_cause_text cause.NotUtf8 = codes "NotUtf8"
book_cause_text cause.TooLong = codes "TooLong"
book_cause_text cause.BadMove = codes "BadMove"
