-- A message to a terminal, as the bytes that the terminal is sent.
use Rattle.std.specs.Prelude.{ℕ, ◌≤◌, List, [], ◌∷◌, ◌++◌, All, replicate}
use Rattle.std.specs.List.{flat_map}
use Rattle.com_msg.specs.declared.sending.Advance.{Advance}
use Rattle.com_msg.specs.declared.sending.Advance.TheVariants.{Before, After, BeforePage, AfterPage}
use Rattle.com_msg.specs.declared.sending.OutMessage.{OutMessage}
use Rattle.com_msg.specs.declared.sending.TheConstants.{MAX_LINES}

-- so many lines as a terminal may advance
abbrev pub IsAdvance : Advance → Type 0
IsAdvance (Before lines) = lines ≤ MAX_LINES
IsAdvance (After lines) = lines ≤ MAX_LINES
IsAdvance BeforePage = Unit {0}
IsAdvance AfterPage = Unit {0}

-- a message that a terminal can be sent
abbrev pub IsRenderable : OutMessage → Type 0
IsRenderable message = All (λ segment. IsAdvance segment.advance) message.segments

-- so many line feeds
abbrev pub line_feeds : ℕ → List ℕ
line_feeds n = replicate n 10

-- one form feed
abbrev pub form_feed : List ℕ
form_feed = 12 ∷ []

-- a text with its line feeds or its form feed
abbrev pub rendered_text : Advance → List ℕ → List ℕ
rendered_text (Before n) text = text ++ line_feeds n
rendered_text (After n) text = line_feeds n ++ text
rendered_text BeforePage text = text ++ form_feed
rendered_text AfterPage text = form_feed ++ text

-- segment by segment; the end writes nothing
abbrev pub rendered_message : OutMessage → List ℕ
rendered_message message =
    flat_map (λ segment. rendered_text segment.advance segment.text) message.segments
