-- `put_response`: the text of each status.
use Rattle.writing.proofs.window.Laws.{append}
use Rattle.server_answers.proofs.Laws.{text_416, text_206, text_head, text_file}
use Rattle.server_answers.proofs.put_response.Goals as goal

pub returns-then-status-eq416 : goal.returns-then-status-eq416
returns-then-status-eq416 c =
    let f = c.args.f.now in
    let e = c.if-status-eq416.true in
    rw (text_416 f.boundary.now f.media.now f.file.now f.tag.now c.args.modified.now c.args.parts.now c.args.status c.args.head_only e)
    c.put_unsatisfied.ensures

pub returns-then-status-eq206 : goal.returns-then-status-eq206
returns-then-status-eq206 c =
    let f = c.args.f.now in
    let e = c.if-status-eq206.true in
    rw (text_206 f.boundary.now f.media.now f.file.now f.tag.now c.args.modified.now c.args.parts.now c.args.status c.args.head_only e)
    c.put_partial.ensures

pub returns-then-head_only : goal.returns-then-head_only
returns-then-head_only c =
    let f = c.args.f.now in
    rw (text_head f.boundary.now f.media.now f.file.now f.tag.now c.args.modified.now c.args.parts.now c.args.status c.args.head_only
    c.if-status-eq416.false c.if-status-eq206.false c.if-head_only.true)
    c.put_ok_head.ensures

pub returns : goal.returns
returns c =
    let f = c.args.f.now in
    rw (text_file f.boundary.now f.media.now f.file.now f.tag.now c.args.modified.now c.args.parts.now c.args.status c.args.head_only
    c.if-status-eq416.false c.if-status-eq206.false c.if-head_only.false)
    (append c.put_ok_head.ensures c.put_data.ensures)
