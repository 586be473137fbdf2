-- Calls in the code, as the definitions see them.
use Rattle.std.specs.Prelude.{map, string_bytes}
use Rattle.elab_store.specs.declared.calls.Called as code
use Rattle.elab_store.specs.Calls.{Called}

abbrev pub called_of : code.Called → Called
called_of c = record { callee = c.callee; placed = c.placed.now; keywords = map string_bytes c.keywords.now; keyword_vals = c.keyword_vals.now; name = c.name.now }
