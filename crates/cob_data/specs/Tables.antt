-- What the tables of the code say, as the forms of the definitions.
use Rattle.std.specs.Prelude.{List, map}
use Rattle.cob_forms.specs.Sorts.{Sort, reserved, name, any_word, of_kind}
use Rattle.cob_forms.specs.Forms.{Part, token, form, maybe, more}
use Rattle.cob_data.specs.declared.grammar.Sort.{Sort as TableSort}
use Rattle.cob_data.specs.declared.grammar.Sort.TheVariants as sorts
use Rattle.cob_data.specs.declared.grammar.Form.{Form as TableForm}
use Rattle.cob_data.specs.declared.grammar.Form.TheVariants as forms
use Rattle.cob_data.specs.declared.grammar.Part.{Part as TablePart}
use Rattle.cob_data.specs.declared.grammar.Part.TheVariants as parts
use Rattle.cob_data.specs.declared.grammar.Alternative.{Alternative}
use Rattle.cob_data.specs.Forms as all

-- a sort of the tables, as one of the definitions
abbrev pub sort_of : TableSort → Sort
sort_of (sorts.Reserved word) = reserved word.now
sort_of sorts.Name = name
sort_of sorts.AnyWord = any_word
sort_of (sorts.Kind kind) = of_kind kind

-- a form of the tables, as one of the definitions
abbrev pub form_of : TableForm → all.Form
form_of forms.Environment = all.environment
form_of forms.Configuration = all.configuration
form_of forms.SourceComputer = all.source_computer
form_of forms.ObjectComputer = all.object_computer
form_of forms.WorkingStorage = all.working_storage
form_of forms.Communication = all.communication
form_of forms.Item = all.item
form_of forms.NameOrFiller = all.name_or_filler
form_of forms.Clauses = all.clauses
form_of forms.BehindPicture = all.behind_picture
form_of forms.BehindValue = all.behind_value
form_of forms.Value = all.value
form_of forms.CdEntry = all.cd_entry
form_of forms.CdUse = all.cd_use
form_of forms.Direction = all.direction
form_of forms.InputBody = all.input_body
form_of forms.InputClause = all.in_clause
form_of forms.SymbolicField = all.symbolic_field
form_of forms.MessageField = all.message_field
form_of forms.OutputBody = all.output_body
form_of forms.OutputClause = all.out_clause
form_of forms.DestinationClause = all.destination_clause
form_of forms.WordIs = all.word_is
form_of forms.WordTimes = all.word_times

-- a part of the tables, as one of the definitions
abbrev pub part_of : TablePart → Part all.Form
part_of (parts.Token sort) = token (sort_of sort)
part_of (parts.Form f) = form (form_of f)
part_of (parts.Maybe f) = maybe (form_of f)
part_of (parts.More f) = more (form_of f)

-- parts of the tables, as those of the definitions
abbrev pub parts_of : List TablePart → List (Part all.Form)
parts_of parts = map part_of parts

-- an alternative of the tables, as one of the definitions
abbrev pub alternative_of : Alternative → Sort × List (Part all.Form)
alternative_of alternative = (sort_of alternative.0, parts_of alternative.1.now)
