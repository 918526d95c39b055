-- The words with which lines and steps begin. This project's own format.
use Rattle.std.specs.Prelude.{ℕ, List, Option, Some, None, if◌then◌else◌, bytes_eq, codes}
use Rattle.schedule_reader.specs.declared.keywords.Keyword.{Keyword}
use Rattle.schedule_reader.specs.declared.keywords.Keyword.TheVariants.{Corb, Answer, Lose, Rirb, Fetch, Link, Plug}
use Rattle.schedule_reader.specs.declared.keywords.Keyword.TheVariants.{Unplug, Run, Irq, Repeat, End}

-- which of them a word is
unfoldable pub keyword_of : List ℕ → Option Keyword
keyword_of word =
    if bytes_eq word (codes "corb") then Some Corb else (
    if bytes_eq word (codes "answer") then Some Answer else (
    if bytes_eq word (codes "lose") then Some Lose else (
    if bytes_eq word (codes "rirb") then Some Rirb else (
    if bytes_eq word (codes "fetch") then Some Fetch else (
    if bytes_eq word (codes "link") then Some Link else (
    if bytes_eq word (codes "plug") then Some Plug else (
    if bytes_eq word (codes "unplug") then Some Unplug else (
    if bytes_eq word (codes "run") then Some Run else (
    if bytes_eq word (codes "irq") then Some Irq else (
    if bytes_eq word (codes "repeat") then Some Repeat else (
    if bytes_eq word (codes "end") then Some End else None)))))))))))
