-- A form as the code has it.
use Rattle.script.specs.declared.forms.Form.TheVariants as code
use Rattle.script.specs.declared.forms.Form as code_form
use Rattle.script.specs.Forms.{Form, form, counted, unsupported, unknown}

abbrev pub form_as : code_form.Form → Form
form_as (code.Words a b c children) = form a b c children.now
form_as code.Counted = counted
form_as code.Unsupported = unsupported
form_as code.Unknown = unknown
