-- A line of a transcript as it is read.
use Rattle.serde_json.specs.View.{view}
use Rattle.osn_request.specs.LineQuery.{line_query}
use Rattle.osn_file_commands.specs.declared.transcript_line.TranscriptLine.{TranscriptLine}
use Rattle.osn_file_commands.specs.TranscriptAudit as spec

-- what a line that was read says
abbrev pub entry_model : TranscriptLine → spec.TranscriptLine
entry_model e =
    record {
      reader = e.reader;
      query = line_query e.query;
      edition = e.edition;
      reply = view e.reply.now;
    }
