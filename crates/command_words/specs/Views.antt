-- What the program's values stand for.
-- Internal: no rule of the language.
use Rattle.std.specs.Option.{option_map}
use Rattle.command_words.specs.Request.{Request}
use Rattle.command_words.specs.declared.request.Asked.{Asked}

abbrev pub asked_seen : Asked → Request
asked_seen a = record {
  design = a.design.now;
  il = a.il.now;
  trace = a.trace.now;
  play = option_map (λ s. s.now) a.play;
  top = option_map (λ s. s.now) a.top;
  budget = a.budget;
  make = a.make;
}
