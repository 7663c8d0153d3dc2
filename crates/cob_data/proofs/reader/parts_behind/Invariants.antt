use Rattle.std.proofs.Common.{◌≡◌, map, drop}
use Rattle.cob_forms.specs.Forms.{behind}
use Rattle.cob_data.specs.Forms.{alternatives_of}
use Rattle.cob_data.specs.Tables.{form_of, alternative_of}
use Rattle.cob_data.proofs.reader.parts_behind.Given as goal

abbrev pub invariant-alternatives : goal.invariant-alternatives
invariant-alternatives l = behind (map alternative_of (drop l.alternative-index l.alternative-items)) l.token ≡ behind (alternatives_of (form_of l.fn.form)) l.token
